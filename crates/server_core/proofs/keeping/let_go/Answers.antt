use Rattle.server_core.specs.Sound.{over}
use Rattle.server_core.proofs.Ended.{letting_go_keeps, letting_go_leaves_written, lets_go_same}
use Rattle.server_core.proofs.keeping.let_go.Goals as goal

pub returns-clause-lets_go : goal.returns-clause-lets_go
returns-clause-lets_go g c = lets_go_same _ g.S.Keeping.shelf g.met.S.Keeping.kept c.args.server.now c.let_go.new.self c.let_go.ensures

pub returns-clause-leaves : goal.returns-clause-leaves
returns-clause-leaves g c = letting_go_leaves_written (over g.S.Keeping.shelf c.args.server.now) (over g.S.Keeping.shelf c.let_go.new.self) (returns-clause-lets_go g c)

pub returns-clause-keeps : goal.returns-clause-keeps
returns-clause-keeps g c = λ s. letting_go_keeps (over g.S.Keeping.shelf c.args.server.now) (over g.S.Keeping.shelf c.let_go.new.self) s (returns-clause-lets_go g c)
