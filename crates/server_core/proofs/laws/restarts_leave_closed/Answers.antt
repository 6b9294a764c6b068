use Rattle.server_core.proofs.Stays.{restarts_leave_closed}
use Rattle.server_core.proofs.laws.restarts_leave_closed.Goals as goal

pub returns : goal.returns
returns c = restarts_leave_closed
