use Rattle.std.proofs.Common.{Bool, List, ℕ, Bor, ◌≡◌, ap, sym, ◌∙◌}
use Rattle.std.specs.List.{list_any}
use Rattle.std.proofs.lemmas.Result.{IfOk-weaker}
use Rattle.catalogues.specs.Patterns.{behind_front, taken}
use Rattle.catalogues.proofs.PatternLaws.{chosen_by}
use Rattle.catalogues.proofs.patterns.chooses.Goals as goal

pub returns : goal.returns
returns c =
    IfOk-weaker c.choose.result _ _ (λ chosen is. chosen_by c.args.name.now c.args.patterns.now chosen (sym c.if-is_empty.ensures)
    (is ∙ ap (λ (n : List ℕ). list_any (λ (p : Bor (List ℕ)). taken n (behind_front p.now)) c.args.patterns.now) c.without_front.ensures.is)) c.choose.ensures
