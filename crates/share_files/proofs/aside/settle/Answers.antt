use Rattle.std.proofs.Common.{subst}
use Rattle.share_files.specs.declared.name.ShareFile.{ShareFile}
use Rattle.share_files.specs.Going.{IsHalfFate}
use Rattle.share_files.proofs.Going.{as_before, err_goes}
use Rattle.share_files.proofs.aside.settle.Goals as goal

pub returns : goal.returns
returns g c = λ wanted of.
    as_before wanted c.args.files.now c.read_fate.new.files c.go_on.new.files c.go_on.result (c.read_fate.ensures.goes wanted)
    (c.go_on.ensures wanted of
    (subst (λ (h : ShareFile). IsHalfFate wanted h c.args.name.now.digest c.read_fate.new.files c.in_ok-fate.fate) c.half_aside-half.ensures (c.in_ok-fate.ensures.fate wanted)))

pub returns-in_err-fate : goal.returns-in_err-fate
returns-in_err-fate g c = λ wanted of. err_goes wanted c.args.files.now c.read_fate.new.files _ c.from_residual.result c.from_residual.ensures.1 (c.read_fate.ensures.goes wanted)
