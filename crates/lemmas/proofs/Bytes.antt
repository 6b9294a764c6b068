-- What holds of bytes that are written over others.
use Rattle.std.proofs.Common.{◌≡◌, ℕ, List, ◌++◌, length, ap, ◌∙◌, subst}
use Rattle.std.proofs.Math.Seq.{take-append_seam, drop-append_seam, drop-length}
use Rattle.std.proofs.lemmas.List.{append-nil}
use borrow.Rule.Slice.PartMut.{put_mid}

in_order : (a b z : List ℕ) → put_mid (length a) (length z) (a ++ z) b ≡ a ++ b
in_order a b z = simp (take-append_seam, drop-append_seam, drop-length, append-nil)

-- Bytes, and others over those that follow.
pub put_behind : (a b z : List ℕ) (n k : ℕ) (start rest : List ℕ) → length a ≡ n → length z ≡ k → a ≡ start → b ≡ rest
    → put_mid n k (a ++ z) b ≡ start ++ rest
put_behind a b z n k start rest long more first second =
    subst (λ m. put_mid m k (a ++ z) b ≡ start ++ rest) long
    (subst (λ m. put_mid (length a) m (a ++ z) b ≡ start ++ rest) more (in_order a b z ∙ ap (λ l. l ++ b) first ∙ ap (λ l. start ++ l) second))
