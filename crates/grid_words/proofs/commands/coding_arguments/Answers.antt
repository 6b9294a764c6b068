use Rattle.std.proofs.Common.{rules, take}
use Rattle.std.specs.Option.{option_map}
use Rattle.grid_words.specs.CommandLine.{put_rules}
use Rattle.grid_words.proofs.commands.coding_arguments.Goals as goal

pub returns : goal.returns
returns c =
    c.gathered.ensures (take 10 (put_rules (option_map (λ folder. folder.now) c.args.grid))) (search rules)
