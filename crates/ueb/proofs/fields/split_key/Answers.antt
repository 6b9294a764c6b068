use Rattle.std.proofs.Common.{◌∙◌, ℕ, List, subst, sym}
use Rattle.std.proofs.lemmas.Bool.{both_ways}
use Rattle.ueb.specs.Fields.{IsKey}
use Rattle.ueb.specs.Splits.{HasNoColon}
use Rattle.ueb.proofs.Text.{colon_stands, colon_unique, no_colon_in_key}
use Rattle.ueb.proofs.fields.split_key.Goals as goal

pub returns-in_err-key-clause-none : goal.returns-in_err-key-clause-none
returns-in_err-key-clause-none c =
    rw c.from_residual.ensures (λ key after is_key e. colon_stands key after (subst (λ (t : List ℕ). HasNoColon t) e c.in_err-key.ensures.none))

pub returns-else-is_key-clause-none : goal.returns-else-is_key-clause-none
returns-else-is_key-clause-none c key after is_key e =
    let same = colon_unique key c.in_ok-key.key.now after c.in_ok-key.after.now (no_colon_in_key key is_key.bytes) c.in_ok-key.ensures.first (sym e ∙ c.in_ok-key.ensures.found) in
    both_ways _ c.if-is_key.false (c.is_key.ensures.1 (subst (λ (t : List ℕ). IsKey t) same.0 is_key))
