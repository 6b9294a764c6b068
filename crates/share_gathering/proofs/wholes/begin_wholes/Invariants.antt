use Rattle.std.proofs.Common.{◌≡◌, length}
use Rattle.share_layout.specs.Layout.{header}
use Rattle.tagged_hash.specs.Wholes.{AreGiven}
use Rattle.share_gathering.proofs.wholes.begin_wholes.Given as goal

abbrev pub invariant-loop-group : goal.invariant-loop-group
invariant-loop-group l = record {
  count : length l.wholes.items ≡ l.group;
  held : AreGiven l.geometry.total (λ i. header l.geometry) l.wholes.items;
}
