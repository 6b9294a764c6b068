use Rattle.std.proofs.Common.{◌≡◌, ℕ, List, ◌++◌, ◌+◌, ◌*◌, ◌%◌, ◌^◌, ◌≤◌, length, take}
use Rattle.sha2_lanes.specs.Stream.{Holds}
use Rattle.sha2_lanes.proofs.StreamLemmas.{IsAbsorbed}
use Rattle.sha2_lanes.proofs.stream.Sha256Stream.update.Given as goal

abbrev pub invariant-groups : goal.invariant-groups
invariant-groups l =
    (l.self.total ≡ (l.fn.self.total + length l.piece) % 2 ^ 64) × (l.start + 512 * l.i ≤ length l.piece)
    × ((m : List ℕ) → Holds l.fn.self m → IsAbsorbed l.self.hash l.self.buffer (m ++ take (l.start + 512 * l.i) l.piece) × ((length m + l.start) % 512 ≡ 0))
