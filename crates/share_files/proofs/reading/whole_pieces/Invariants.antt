use Rattle.std.proofs.Common.{◌≡◌, ◌<◌, ◌≤◌, ℕ, length}
use Rattle.std.specs.Prelude.{All}
use Rattle.share_files.proofs.reading.whole_pieces.Given as goal

-- each place stands for a file, once there is one
abbrev pub invariant-loop-place : goal.invariant-loop-place
invariant-loop-place g l = (l.count ≤ 8) × (0 < l.count → All (λ place. place < length l.readings) l.places)
