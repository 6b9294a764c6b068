use Rattle.std.proofs.Common.{◌≡◌, ◌++◌, arith}
use Rattle.std.specs.String.{string_bytes}
use Rattle.std.proofs.lemmas.Grind.{common_steps}
use Rattle.grid_commands.specs.Inits.{servers_line, ways_lines}
use Rattle.grid_commands.proofs.init.lines_of.Goals as goal

pub returns : goal.returns
returns c =
    let ways = c.in_ok-ways.ensures in
    let told : c.into_bytes.result.items ≡ servers_line c.args.servers ++ (string_bytes c.in_ok-secret.secret ++ ways_lines c.args.words.now.ways) =
    grind (arith, common_steps, ways) in
    (string_bytes c.in_ok-secret.secret, c.in_ok-secret.ensures, told)
