use Rattle.std.proofs.Common.{rules, None, drop}
use Rattle.grid_words.specs.CommandLine.{put_rules}
use Rattle.grid_words.proofs.commands.storing_arguments.Goals as goal

pub returns : goal.returns
returns c =
    c.gathered.ensures (drop 10 (put_rules None)) (search rules)
