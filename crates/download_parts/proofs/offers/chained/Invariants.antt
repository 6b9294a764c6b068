use Rattle.std.proofs.Common.{◌≡◌, length, take}
use Rattle.merkle.specs.Tree.{needed_numbers}
use Rattle.download_parts.specs.Offers.{numbered}
use Rattle.download_parts.proofs.offers.chained.Given as goal

abbrev pub invariant-loop-position : goal.invariant-loop-position
invariant-loop-position l = record {
  offers : l.offers.items ≡ numbered (take l.position (needed_numbers l.height l.leaf)) (take l.position l.entries);
  count : length l.offers.items ≡ l.position;
}
