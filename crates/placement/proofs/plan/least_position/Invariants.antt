use Rattle.std.proofs.Common.{ℕ, ◌<◌, ◌≤◌, length, get_or}
use Rattle.placement.proofs.plan.least_position.Given as goal

abbrev pub invariant-loop-position : goal.invariant-loop-position
invariant-loop-position l = record {
  within : l.least < length l.loads;
  least : (i : ℕ) → i < l.position → get_or l.loads l.least 0 ≤ get_or l.loads i 0;
  first : (i : ℕ) → i < l.least → get_or l.loads l.least 0 < get_or l.loads i 0;
}
