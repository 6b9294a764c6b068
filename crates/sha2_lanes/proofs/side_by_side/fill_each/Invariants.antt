use Rattle.std.proofs.Common.{◌≡◌, ℕ, ◌<◌, ◌≤◌, get_or, length}
use Rattle.sha2_lanes.specs.Lanes.{text}
use Rattle.sha2_lanes.proofs.SideBySide.{HaveSoFar, IsFilled}
use Rattle.sha2_lanes.proofs.side_by_side.fill_each.Given as goal

abbrev pub invariant-loop-j : goal.invariant-loop-j
invariant-loop-j l = record {
  long : length l.starts ≡ 8;
  within : (k : ℕ) → k < l.j → get_or l.starts k 0 ≤ length (text l.pieces k);
  filled : HaveSoFar (λ k. IsFilled (get_or l.starts k 0) (text l.pieces k)) l.fn.streams l.streams l.j;
}
