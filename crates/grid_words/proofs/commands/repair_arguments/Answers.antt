use Rattle.std.proofs.Common.{rules}
use Rattle.std.specs.Option.{option_map}
use Rattle.grid_words.specs.CommandLine.{repair_rules}
use Rattle.grid_words.proofs.commands.repair_arguments.Goals as goal

pub returns : goal.returns
returns c =
    c.gathered.ensures (repair_rules (option_map (λ folder. folder.now) c.args.grid)) (search rules)
