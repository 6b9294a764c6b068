use Rattle.std.proofs.Common.{codes}
use Rattle.grid_words.specs.CommandLine.{number}
use Rattle.grid_words.proofs.arguments.add.Goals as goal

pub returns : goal.returns
returns c = c.of_marked_grid.ensures (number (codes "add")) c.number.ensures
