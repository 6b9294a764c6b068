use Rattle.std.proofs.Common.{◌≡◌, map, take, ℕ, Bor, Vec, Global, List}
use Rattle.file_encoding.proofs.share.slices_of.Given as goal

abbrev pub invariant-loop-share : goal.invariant-loop-share
invariant-loop-share l = record {
  numbers : map (λ (s : ℕ × Bor (List ℕ)). s.0) l.slices.items ≡ map (λ (s : ℕ × Vec ℕ Global). s.0) (take l.share-index l.shares);
  bytes : map (λ (s : ℕ × Bor (List ℕ)). s.1.now) l.slices.items ≡ map (λ (s : ℕ × Vec ℕ Global). s.1.items) (take l.share-index l.shares);
}
