use Rattle.server_core.specs.Sound.{over}
use Rattle.server_core.proofs.Over.{serves_over}
use Rattle.server_core.proofs.Keeps.{messages_keep}
use Rattle.server_core.proofs.Stays.{messages_leave_others}
use Rattle.server_core.proofs.keeping.serve.Goals as goal

pub returns-clause-serves : goal.returns-clause-serves
returns-clause-serves g c =
    serves_over g.S.Store.calls g.S.Keeping.shelf g.met.S.Keeping.kept
    c.args.server.now c.on_message.new.self c.args.from c.args.now c.args.message.now c.on_message.result c.on_message.ensures.serves

pub returns-clause-leaves : goal.returns-clause-leaves
returns-clause-leaves g c = messages_leave_others (over g.S.Keeping.shelf c.args.server.now) (over g.S.Keeping.shelf c.on_message.new.self) c.args.from c.args.now c.args.message.now c.on_message.result (returns-clause-serves g c)

pub returns-clause-keeps : goal.returns-clause-keeps
returns-clause-keeps g c = λ s. messages_keep (over g.S.Keeping.shelf c.args.server.now) (over g.S.Keeping.shelf c.on_message.new.self) c.args.from c.args.now c.args.message.now c.on_message.result s (returns-clause-serves g c)
