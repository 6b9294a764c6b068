use Rattle.std.proofs.Common.{take}
use Rattle.std.specs.Option.{option_map}
use Rattle.grid_words.specs.Builds.{IsApp, with_named}
use Rattle.grid_words.specs.CommandLine.{bare_app}
use Rattle.grid_words.proofs.commands.grid_command.Given as goal

abbrev pub invariant-loop-name : goal.invariant-loop-name
invariant-loop-name l = IsApp (with_named (option_map (λ folder. folder.now) l.fn.grid) bare_app (take l.name-index l.name-items)) l.command
