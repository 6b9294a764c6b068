use Rattle.lemmas.proofs.Results.{on_ok}
use Rattle.world.specs.State.{state_of}
use Rattle.world.proofs.Moving.{all_ticked, server_ticked}
use Rattle.world.proofs.Preserving.{preserves_on}
use Rattle.world.proofs.scene.Scene.tick.Goals as goal

pub returns-clause-ok : goal.returns-clause-ok
returns-clause-ok c =
    let w = state_of c.args.self.now in
    on_ok c.tick_operations.result _ _ (λ t. all_ticked w (state_of c.tick_operations.new.self) c.args.node c.from.result c.tick_server.new.servers.items c.from.ensures c.tick_server.ensures t) c.tick_operations.ensures.ok

pub returns-clause-keeps : goal.returns-clause-keeps
returns-clause-keeps c =
    let w = state_of c.args.self.now in
    preserves_on w (record w { servers = c.tick_server.new.servers.items }) (state_of c.tick_operations.new.self)
    (server_ticked w c.from.result w.clock c.tick_server.new.servers.items c.tick_server.ensures) c.tick_operations.ensures.keeps
