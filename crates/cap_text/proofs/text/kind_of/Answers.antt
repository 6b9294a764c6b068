use Rattle.std.proofs.Common.{ℕ, List, ◌++◌, drop, sym, ap, ◌∙◌}
use Rattle.std.proofs.lemmas.List.{take-append-drop}
use Rattle.std.specs.Prelude.{codes}
use lib.Pointwise.{bytes_decides}
use Rattle.cap_text.proofs.text.kind_of.Goals as goal

pub returns-in-Some-strip_prefix : goal.returns-in-Some-strip_prefix
returns-in-Some-strip_prefix c =
    let cases = c.in-Some-strip_prefix.ensures.cases in
    sym (take-append-drop 17 c.args.text.now) ∙ ap (λ (front : List ℕ). front ++ drop 17 c.args.text.now) ((bytes_decides _ _).0 cases.0)
    ∙ ap (λ (rest : List ℕ). codes "URI:CHK-Verifier:" ++ rest) (sym cases.1)
