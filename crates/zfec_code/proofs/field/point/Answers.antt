use Rattle.std.proofs.Common.{◌∙◌, ap, ◌≡◌, sym, get_or, arith, ◌-◌, suc}
use Rattle.zfec_code.specs.Field.{point_of}
use Rattle.zfec_code.specs.declared.tables.TheConstants.{POWERS}
use Rattle.zfec_code.proofs.TableEntries.{power_entry}
use Rattle.zfec_code.proofs.field.point.Goals as goal

pub returns-then-i-eq0 : goal.returns-then-i-eq0
unfolding point_of
returns-then-i-eq0 c = sym (ap point_of c.if-i-eq0.true)

pub returns-else-i-eq0 : goal.returns-else-i-eq0
unfolding point_of
returns-else-i-eq0 c =
    let i = c.args.i in
    let next : suc (i - 1) ≡ i = omega (arith, c.if-i-eq0.false) in
    ap (λ x. get_or POWERS x 0) c.from.ensures ∙ power_entry (i - 1) (omega (arith, c.ranges.i.fits)) ∙ ap point_of next
