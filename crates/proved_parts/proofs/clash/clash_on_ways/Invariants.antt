use Rattle.std.proofs.Common.{◌≡◌, ◌/◌, ◌%◌, ◌^◌}
use Rattle.std.specs.Prelude.{◌≢◌}
use Rattle.merkle.specs.Path.{path_root}
use Rattle.proved_parts.proofs.clash.clash_on_ways.Given as goal

abbrev pub invariant-loop-i : goal.invariant-loop-i
invariant-loop-i l = record {
  position : l.at ≡ l.position / 2 ^ l.i;
  mine : l.left ≡ path_root l.i (l.position % 2 ^ l.i) l.fn.first l.these;
  yours : l.right ≡ path_root l.i (l.position % 2 ^ l.i) l.fn.second l.those;
  apart : l.left ≢ l.right;
}
