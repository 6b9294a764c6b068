use Rattle.std.proofs.Common.{List, None, Option, codes, drop, take}
use Rattle.std.specs.Option.{option_map}
use Rattle.std.proofs.lemmas.Result.{IfOk-weaker}
use Rattle.clap.specs.Walk.{Rule, Text}
use Rattle.grid_words.specs.Builds.{HasShape}
use Rattle.grid_words.specs.CommandLine.{put_rules, shape}
use Rattle.grid_words.proofs.Added.{added_all}
use Rattle.grid_words.proofs.commands.put_command.Goals as goal

pub returns : goal.returns
returns c =
    let grid : Option Text = option_map (λ folder. folder.now) c.args.grid in
    let first : List Rule = take 10 (put_rules grid) in
    let is : HasShape (shape (codes "put") first) c.in_ok-command.command =
    c.in_ok-command.ensures first c.in_ok-coding_arguments.ensures in
    IfOk-weaker c.args-2.result _ _ (λ r adds. added_all _ r _ (drop 10 (put_rules None)) (shape (codes "put") first) adds c.in_ok-storing_arguments.ensures is) c.args-2.ensures
