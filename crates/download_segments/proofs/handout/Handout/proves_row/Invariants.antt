use Rattle.std.proofs.Common.{◌≡◌, ◌+◌, ◌<◌, ℕ, [], map, get_or}
use Rattle.download_segments.specs.State.{ProvesSegment}
use Rattle.download_segments.proofs.handout.Handout.proves_row.Given as goal

abbrev pub invariant-loop-hash : goal.invariant-loop-hash
invariant-loop-hash l = record {
  offset : l.offset ≡ l.number + l.hash-index;
  proves : (i : ℕ) → i < l.hash-index → ProvesSegment l.self (l.number + i) (get_or (map (λ s. s.items) l.segments) i []);
}
