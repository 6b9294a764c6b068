use Rattle.std.proofs.Common.{◌∙◌, ◌++◌, ◌∷◌, [], List, replicate, ap}
use Rattle.world.specs.State.{new_server}
use Rattle.world.proofs.Worlds.{replicate_push}
use Rattle.world.proofs.world.new_servers.Goals as goal

pub loop-preserved : goal.loop-preserved
loop-preserved c =
    c.in_ok-push.ensures.items ∙ ap (λ (l : List _). l ++ c.empty_server.result ∷ []) c.loop.invariant ∙ ap (λ m. replicate c.loop.counter new_server ++ m ∷ []) c.empty_server.ensures
    ∙ replicate_push c.loop.counter new_server
