use Rattle.std.proofs.Common.{refl}
use Rattle.grid_commands.specs.Grid.{refused, served}
use Rattle.grid_commands.proofs.grid.Goals as goal

pub returns-in-Ok : goal.returns-in-Ok
returns-in-Ok g c = served c.in-Ok.request c.in-Ok.ensures.asked c.serve.ensures

pub returns-in-Err : goal.returns-in-Err
returns-in-Err g c = refused c.in-Err.error c.in-Err.ensures.passes c.tell_words.ensures refl
