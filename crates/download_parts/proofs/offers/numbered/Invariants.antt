use Rattle.std.proofs.Common.{◌≡◌, ◌+◌, take}
use Rattle.download_parts.specs.Offers.{offered_nodes}
use Rattle.download_parts.proofs.offers.numbered.Given as goal

abbrev pub invariant-loop-hash : goal.invariant-loop-hash
invariant-loop-hash l = record {
  position : l.position ≡ l.nodes.from + l.hash-index;
  offers : l.offers.items ≡ offered_nodes l.nodes.row l.nodes.from (take l.hash-index l.hashes);
}
