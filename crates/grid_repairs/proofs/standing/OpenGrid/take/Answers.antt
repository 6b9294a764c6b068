use Rattle.std.proofs.Common.{sym, ◌∙◌}
use Rattle.grid_repairs.proofs.StandingLemmas.{stand_kept, stand_new}
use Rattle.grid_repairs.proofs.standing.OpenGrid.take.Goals as goal

pub returns-in-Some-clause-stand : goal.returns-in-Some-clause-stand
returns-in-Some-clause-stand g c = stand_kept _ c.args.place.now.grid.now c.args.kept.now c.in-Some.open (sym c.take.ensures.value ∙ c.in-Some.is) c.requires

pub returns-in-None-clause-stand : goal.returns-in-None-clause-stand
returns-in-None-clause-stand g c = stand_new _ c.args.place.now.grid.now c.args.kept.now c.open.result (sym c.take.ensures.value ∙ c.in-None.is) c.open.ensures
