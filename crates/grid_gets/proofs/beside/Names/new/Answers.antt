use Rattle.std.proofs.Common.{◌∙◌, rules}
use Rattle.std.specs.String.{string_bytes}
use Rattle.grid_gets.proofs.PartLemmas.{apart}
use Rattle.grid_gets.proofs.beside.Names.new.Goals as goal

pub invariant_of-result : goal.invariant_of-result
invariant_of-result c = record {
  apart = λ same. apart c.last_name-last.result.now (string_bytes c.in_ok-own.own) c.args.turn (search rules) c.in_ok-own.ensures (same ∙ c.in_ok-from_str.ensures.ok);
}
