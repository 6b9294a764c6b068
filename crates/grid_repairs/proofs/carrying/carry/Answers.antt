use Rattle.grid_shares.proofs.Told.{still_ok}
use Rattle.grid_repairs.proofs.carrying.carry.Goals as goal

pub returns : goal.returns
returns g c = still_ok c.carry_check.result c.map_err.result _ _ c.map_err.ensures.cases c.map_err.ensures.variant c.carry_check.ensures
