use Rattle.std.proofs.Common.{sym, ◌∙◌, arith}
use Rattle.ueb.proofs.Walk.{all_remains, value_left, found, looks_on, none_left}
use Rattle.ueb.proofs.fields.find.Goals as goal

pub loop-key-init : goal.loop-key-init
loop-key-init c fields a = all_remains c.args.name.now c.args.bytes.now fields (omega arith) a

pub returns-in_err-value : goal.returns-in_err-value
returns-in_err-value c =
    rw c.from_residual.ensures (λ fields a.
    absurd (value_left c.args.name.now c.loop-key.rest.now c.in-Some.key.now c.in-Some.after.now fields (c.loop-key.invariant fields a) c.in-Some.ensures.key c.in-Some.ensures.found c.in_err-value.ensures.none))

pub returns-then-eq : goal.returns-then-eq
returns-then-eq c fields a =
    found c.args.name.now c.loop-key.rest.now c.in-Some.key.now c.in-Some.after.now c.in_ok-value.value.now c.in_ok-value.after.now fields c.in-Some.ensures.key c.in-Some.ensures.found c.in_ok-value.ensures.found (sym c.eq.ensures ∙ c.if-eq.true) (c.loop-key.invariant fields a)

pub loop-key-preserved : goal.loop-key-preserved
loop-key-preserved c fields a =
    looks_on c.args.name.now c.loop-key.rest.now c.in-Some.key.now c.in-Some.after.now c.in_ok-value.value.now c.in_ok-value.after.now fields c.in-Some.ensures.key c.in-Some.ensures.found c.in_ok-value.ensures.found (sym c.eq.ensures ∙ c.if-eq.false) (c.loop-key.invariant fields a)

pub returns : goal.returns
returns c fields a = none_left c.args.name.now c.loop-key.rest.now fields c.in_default.ensures.none (c.loop-key.invariant fields a)
