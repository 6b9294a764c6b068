-- Pieces that follow one another.
use Rattle.std.proofs.Common.{◌≡◌, ℕ, ◌+◌, ◌<◌, ◌≤◌, List, [], ◌∷◌, ◌++◌, length, ap, subst, sym, ◌∙◌, arith}
use Rattle.download_segments.specs.declared.piece.Piece.{Piece}
use Rattle.download_segments.specs.Pieces.{AreConsecutive}

ends_behind : (offset : ℕ) (ps : List Piece) (end : ℕ) → AreConsecutive offset ps end → offset ≤ end
ends_behind offset [] end k = omega (arith, k)
ends_behind offset (p ∷ ps) end k = omega (arith, ends_behind (offset + length p.bytes) ps end k.2)

-- one more piece
pub consecutive_push : (offset : ℕ) (ps : List Piece) (end : ℕ) (p : Piece) → AreConsecutive offset ps end
    → p.offset ≡ end → 0 < length p.bytes → AreConsecutive offset (ps ++ p ∷ []) (end + length p.bytes)
consecutive_push offset [] end p k at some = (at ∙ sym k, some, ap (λ (n : ℕ). n + length p.bytes) k)
consecutive_push offset (q ∷ qs) end p k at some =
    (k.0, k.1, consecutive_push (offset + length q.bytes) qs end p k.2 at some)

-- the first is taken
pub consecutive_taken : (offset : ℕ) (p : Piece) (ps : List Piece) (end : ℕ) → AreConsecutive offset (p ∷ ps) end
    → AreConsecutive (p.offset + length p.bytes) ps end
consecutive_taken offset p ps end k = subst (λ (n : ℕ). AreConsecutive (n + length p.bytes) ps end) (sym k.0) k.2

pub taken_within : (offset : ℕ) (p : Piece) (ps : List Piece) (end : ℕ) → AreConsecutive offset (p ∷ ps) end
    → p.offset + length p.bytes ≤ end
taken_within offset p ps end k = ends_behind (p.offset + length p.bytes) ps end (consecutive_taken offset p ps end k)
