use Rattle.std.proofs.Common.{◌∙◌, sym}
use Rattle.grid_surveys.specs.VerifyEnds.{making_of}
use Rattle.grid_surveys.proofs.VerifyLemmas.{chosen_as, of_chosen, of_passed}
use Rattle.grid_surveys.proofs.verifying.verify_line.Goals as goal

pub returns-then-not-branch-clause-came : goal.returns-then-not-branch-clause-came
returns-then-not-branch-clause-came g c =
    of_passed _ c.args.verifying.now.words.now (making_of c.args.verifying.now.comparing) c.args.line.cap c.args.line.name _
    (sym c.if-not-branch.true ∙ chosen_as c.args.verifying.now.words.now c.args.line.name c.deref.result.now c.as_slice.result.now c.in_ok-chooses.field-0 c.as_slice.ensures.value (c.deref.ensures.value ∙ c.in_ok-name.ensures.value) c.in_ok-chooses.ensures)

pub returns-clause-came : goal.returns-clause-came
returns-clause-came g c =
    of_chosen _ c.args.verifying.now.words.now (making_of c.args.verifying.now.comparing) c.args.line.cap c.args.line.name c.deref-2.result.now _ _ c.in_ok-verify_chosen.field-0 (c.deref-2.ensures.value ∙ c.in_ok-name.ensures.value)
    (sym c.if-not-branch.false ∙ chosen_as c.args.verifying.now.words.now c.args.line.name c.deref.result.now c.as_slice.result.now c.in_ok-chooses.field-0 c.as_slice.ensures.value (c.deref.ensures.value ∙ c.in_ok-name.ensures.value) c.in_ok-chooses.ensures)
    c.in_ok-verify_chosen.ensures.came
