use Rattle.std.proofs.Common.{◌∙◌, ◌++◌, ◌∷◌, [], List, replicate, ap}
use Rattle.world_operations.specs.declared.message.Sent.{Sent}
use Rattle.world.proofs.Worlds.{replicate_push}
use Rattle.world.proofs.world.new_heard.Goals as goal

pub loop-preserved : goal.loop-preserved
loop-preserved c =
    c.in_ok-push.ensures.items ∙ ap (λ (l : List (List Sent)). l ++ c.new.result ∷ []) c.loop.invariant ∙ ap (λ (m : List Sent). replicate {A = List Sent} c.loop.counter [] ++ m ∷ []) c.new.ensures
    ∙ replicate_push {A = List Sent} c.loop.counter []
