use Rattle.std.proofs.Common.{◌≡◌, ◌∙◌, ap, sym, subst, arith, take, Option}
use Rattle.std.proofs.lemmas.List.{take_more}
use Rattle.std.specs.Option.{option_map}
use Rattle.clap.specs.Simple.{App}
use Rattle.clap.specs.Walk.{Text}
use Rattle.grid_words.specs.Builds.{IsApp, all_names, with_named}
use Rattle.grid_words.specs.CommandLine.{bare_app, grid_app}
use Rattle.grid_words.proofs.Added.{added_command, named_more}
use Rattle.grid_words.proofs.commands.grid_command.Goals as goal

pub loop-name-preserved : goal.loop-name-preserved
loop-name-preserved c =
    let grid : Option Text = option_map (λ folder. folder.now) c.args.grid in
    let more = added_command c.loop-name.command c.in_ok-command_of.field-0 c.in_ok-command-2.command _ _ c.in_ok-command-2.ensures c.in_ok-command_of.ensures c.loop-name.invariant in
    let step = ap (with_named grid bare_app) (take_more all_names c.loop-name.name-index _ c.loop-name-test.true) ∙ named_more grid bare_app (take c.loop-name.name-index all_names) _ in
    subst (λ (a : App). IsApp a c.in_ok-command-2.command) (sym step) more

pub returns : goal.returns
returns c =
    let grid : Option Text = option_map (λ folder. folder.now) c.args.grid in
    let end : c.loop-name.name-index ≡ 11 = omega (arith, c.loop-name-test.false, c.loop-name.auto.name-index-end) in
    let all : with_named grid bare_app (take c.loop-name.name-index all_names) ≡ grid_app grid = ap (λ i. with_named grid bare_app (take i all_names)) end in
    subst (λ (a : App). IsApp a c.loop-name.command) all c.loop-name.invariant
