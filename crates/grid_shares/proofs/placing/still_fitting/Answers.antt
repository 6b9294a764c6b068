use Rattle.std.proofs.Common.{Some, ap, sym, ◌∙◌}
use Rattle.grid_shares.proofs.Told.{some_weaker}
use Rattle.grid_shares.proofs.placing.still_fitting.Goals as goal

pub returns-in-Some-clause-held : goal.returns-in-Some-clause-held
returns-in-Some-clause-held g c = some_weaker c.after.result _ _ (λ s is. c.in-Some.is ∙ ap Some (sym is.0)) c.after.ensures

pub returns-in-Some-clause-still : goal.returns-in-Some-clause-still
returns-in-Some-clause-still g c = some_weaker c.after.result _ _ (λ s is. is.1) c.after.ensures
