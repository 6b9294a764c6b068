use Rattle.std.proofs.Common.{◌≡◌, ◌+◌, ◌<◌, ℕ, [], length, get_or}
use Rattle.sha2.specs.Sha256.{padded_message}
use Rattle.sha2_lanes.specs.Lanes.{message}
use Rattle.sha2_lanes.proofs.message.edge_words.Given as goal

abbrev pub invariant-loop-j : goal.invariant-loop-j
invariant-loop-j l = record {
  count : length l.blocks ≡ 8;
  each : (k : ℕ) → k < 8 → length (get_or l.blocks k []) ≡ 64;
  made : (k i : ℕ) → k < l.j → i < 64
      → get_or (get_or l.blocks k []) i 0
      ≡ get_or (padded_message (message l.prefix l.messages k)) (l.start + i) 0;
}
