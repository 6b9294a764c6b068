use Rattle.std.proofs.Common.{◌∙◌, sym}
use Rattle.grid_surveys.specs.LookEnds.{task_of}
use Rattle.grid_surveys.proofs.LookLemmas.{chosen_as, of_chosen, of_passed}
use Rattle.grid_surveys.proofs.looking.look_line.Goals as goal

pub returns-then-not-branch-clause-came : goal.returns-then-not-branch-clause-came
returns-then-not-branch-clause-came g c =
    of_passed _ (task_of c.args.looking.look) c.args.line.cap c.args.line.name _
    (sym c.if-not-branch.true ∙ chosen_as (task_of c.args.looking.look) c.args.line.name c.deref.result.now c.names.result.now c.in_ok-chooses.field-0 c.names.ensures (c.deref.ensures.value ∙ c.in_ok-name.ensures.value) c.in_ok-chooses.ensures)

pub returns-clause-came : goal.returns-clause-came
returns-clause-came g c =
    of_chosen _ (task_of c.args.looking.look) c.args.line.cap c.args.line.name c.deref-2.result.now c.look_at-seen.result _ _ c.in_ok-came.came (c.deref-2.ensures.value ∙ c.in_ok-name.ensures.value)
    (sym c.if-not-branch.false ∙ chosen_as (task_of c.args.looking.look) c.args.line.name c.deref.result.now c.names.result.now c.in_ok-chooses.field-0 c.names.ensures (c.deref.ensures.value ∙ c.in_ok-name.ensures.value) c.in_ok-chooses.ensures)
    c.look_at-seen.ensures.seen c.in_ok-came.ensures.told
