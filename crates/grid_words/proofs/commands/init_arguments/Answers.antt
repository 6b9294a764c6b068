use Rattle.std.proofs.Common.{rules}
use Rattle.grid_words.specs.CommandLine.{init_rules}
use Rattle.grid_words.proofs.commands.init_arguments.Goals as goal

pub returns : goal.returns
returns c =
    c.gathered.ensures init_rules (search rules)
