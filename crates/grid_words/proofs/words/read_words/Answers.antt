use Rattle.std.proofs.Common.{true, ◌≡◌, ◌∙◌, ap, sym, map, List, Some}
use Rattle.std.specs.Option.{option_map}
use Rattle.clap.specs.Simple.{App, is_simple, subcommand_of, subcommand_rows_of}
use Rattle.clap.specs.Takes.{takes}
use Rattle.clap.specs.Values.{kind_of}
use Rattle.clap.specs.Walk.{Row, Text}
use Rattle.clap.specs.declared.error.kind.ErrorKind.TheVariants.{OutOfMemory}
use Rattle.grid_words.specs.Asked.{rows_in}
use Rattle.grid_words.specs.CommandLine.{grid_app}
use Rattle.grid_words.proofs.Asking.{asked, grid_is_simple, handed_on, name_in_rows}
use Rattle.grid_words.proofs.words.read_words.Goals as goal

pub returns-clause-asked : goal.returns-clause-asked
returns-clause-asked g c =
    let texts = map g.S.AsStr.text c.args.words.now in
    let app = grid_app (option_map (λ folder. folder.now) c.args.grid) in
    let found : subcommand_rows_of c.in_ok-matches.matches ≡ subcommand_of app texts =
    (c.in_ok-matches.ensures.matches (ap is_simple c.in_ok-command.ensures.0 ∙ grid_is_simple (option_map (λ folder. folder.now) c.args.grid))).1
    ∙ ap (λ (a : App). subcommand_of a texts) c.in_ok-command.ensures.0 in
    let named : option_map (λ (p : Text × List Row). p.0) (subcommand_of app texts) ≡ Some c.in-Some.name.now =
    ap (option_map (λ (p : Text × List Row). p.0)) (sym found) ∙ name_in_rows c.in_ok-matches.matches ∙ sym c.in-Some.ensures.name in
    let held : option_map (λ (p : Text × List Row). p.1) (subcommand_of app texts) ≡ Some (rows_in c.in-Some.found.now) =
    ap (option_map (λ (p : Text × List Row). p.1)) (sym found) ∙ sym c.in-Some.ensures.rows in
    asked _ _ _ _ named held c.in_ok-request_of-in-Some.ensures

pub returns-in_err-matches-clause-passes : goal.returns-in_err-matches-clause-passes
returns-in_err-matches-clause-passes g c =
    let texts = map g.S.AsStr.text c.args.words.now in
    let app = grid_app (option_map (λ folder. folder.now) c.args.grid) in
    let passes = λ (t : takes app texts ≡ true). c.in_err-matches.ensures.passes (ap (λ (a : App). takes a texts) c.in_ok-command.ensures.0 ∙ t) in
    handed_on c.from_residual-in_err-matches.result c.in_err-matches.field-0.0 (λ e. takes app texts ≡ true → kind_of e ≡ OutOfMemory) c.from_residual-in_err-matches.ensures.1 passes
