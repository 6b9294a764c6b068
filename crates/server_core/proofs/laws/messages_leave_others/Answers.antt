use Rattle.server_core.proofs.Stays.{messages_leave_others}
use Rattle.server_core.proofs.laws.messages_leave_others.Goals as goal

pub returns : goal.returns
returns c = messages_leave_others
