use Rattle.std.proofs.Common.{◌≡◌, Some, None, arith, length, rules}
use Rattle.std.proofs.lemmas.Str.Pattern.{split_parts}
use Rattle.grid_servers.proofs.Lines.{all_line, first_line}
use Rattle.grid_servers.proofs.sites.only_line.Goals as goal

pub returns-in-None-clause-some : goal.returns-in-None-clause-some
returns-in-None-clause-some c = all_line c.args.text.now (split_parts 10 c.args.text.now None c.in-None.ensures.cases (omega arith))

pub returns-in-Some-clause-some : goal.returns-in-Some-clause-some
returns-in-Some-clause-some c =
    let parts = split_parts 10 c.args.text.now (Some (c.in-Some.line, c.in-Some.rest)) c.in-Some.ensures.cases (omega arith) in
    let empty : length c.in-Some.rest.now ≡ 0 = search rules in
    first_line c.args.text.now c.in-Some.line.now c.in-Some.rest.now parts.0 parts.1 empty
