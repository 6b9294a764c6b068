use Rattle.std.proofs.Common.{[], ◌∷◌, ◌++◌, ◌∙◌, ap, List, ℕ, decimal}
use Rattle.ueb.proofs.ValueTexts.{none_behind}
use Rattle.ueb.proofs.values.strip_number.Goals as goal

pub returns-clause-none : goal.returns-clause-none
returns-clause-none c =
    none_behind c.args.text.now (decimal c.args.number) c.in_ok-rest.rest.now (45 ∷ []) c.strip-2.result
    (c.in_ok-rest.ensures.found ∙ ap (λ (t : List ℕ). t ++ c.in_ok-rest.rest.now) (c.as_bytes.ensures ∙ c.new.ensures)) c.strip-2.ensures.none
