use Rattle.server_core.proofs.Stays.{ticks_leave_closed}
use Rattle.server_core.proofs.laws.ticks_leave_closed.Goals as goal

pub returns : goal.returns
returns c = ticks_leave_closed
