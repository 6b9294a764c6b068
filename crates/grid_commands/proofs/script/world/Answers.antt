use Rattle.grid_commands.proofs.RunLemmas.{world_written}
use Rattle.grid_commands.proofs.script.world.Goals as goal

pub returns-clause-done : goal.returns-clause-done
returns-clause-done g c =
    world_written c.deref.result.now c.in_ok-ending.ending c.written.result _ _ c.as_bytes.result.now c.world_status.result c.in_ok-ending.ensures.ended c.as_bytes.ensures.value c.world_status.ensures
    c.written.ensures.done
