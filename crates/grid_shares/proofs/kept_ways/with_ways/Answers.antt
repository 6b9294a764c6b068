use Rattle.std.proofs.Common.{◌∙◌, refl}
use Rattle.grid_shares.proofs.kept_ways.with_ways.Goals as goal

pub returns : goal.returns
returns c = record {
  ways = c.args.ways;
  are = c.requires;
  others = refl;
  files = c.in_ok-from_slice.ensures.items ∙ c.as_slice.ensures.value;
  numbers = c.numbers_after.ensures;
}
