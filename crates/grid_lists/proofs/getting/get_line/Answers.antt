use Rattle.std.proofs.Common.{◌∙◌, sym}
use Rattle.grid_lists.proofs.GetLemmas.{chosen_as, of_chosen, of_passed}
use Rattle.grid_lists.proofs.getting.get_line.Goals as goal

pub returns-then-not-branch-clause-came : goal.returns-then-not-branch-clause-came
returns-then-not-branch-clause-came g c =
    of_passed _ c.args.words.now c.args.line.cap c.args.line.name _
    (sym c.if-not-branch.true ∙ chosen_as c.args.words.now c.args.line.name c.deref.result.now c.as_slice.result.now c.in_ok-chooses.field-0 c.as_slice.ensures.value (c.deref.ensures.value ∙ c.in_ok-name.ensures.value) c.in_ok-chooses.ensures)

pub returns-clause-came : goal.returns-clause-came
returns-clause-came g c =
    of_chosen _ c.args.words.now c.args.line.cap c.args.line.name c.deref-2.result.now _ _ c.in_ok-get_chosen.field-0 (c.deref-2.ensures.value ∙ c.in_ok-name.ensures.value)
    (sym c.if-not-branch.false ∙ chosen_as c.args.words.now c.args.line.name c.deref.result.now c.as_slice.result.now c.in_ok-chooses.field-0 c.as_slice.ensures.value (c.deref.ensures.value ∙ c.in_ok-name.ensures.value) c.in_ok-chooses.ensures)
    c.in_ok-get_chosen.ensures.came
