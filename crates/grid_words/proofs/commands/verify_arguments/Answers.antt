use Rattle.std.proofs.Common.{rules}
use Rattle.std.specs.Option.{option_map}
use Rattle.grid_words.specs.CommandLine.{verify_rules}
use Rattle.grid_words.proofs.commands.verify_arguments.Goals as goal

pub returns : goal.returns
returns c =
    c.gathered.ensures (verify_rules (option_map (λ folder. folder.now) c.args.grid)) (search rules)
