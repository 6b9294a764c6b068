use Rattle.std.proofs.Common.{rules}
use Rattle.std.specs.Option.{option_map}
use Rattle.grid_words.specs.CommandLine.{get_rules}
use Rattle.grid_words.proofs.commands.get_arguments.Goals as goal

pub returns : goal.returns
returns c =
    c.gathered.ensures (get_rules (option_map (λ folder. folder.now) c.args.grid)) (search rules)
