-- Blocks that are read of one share after another.
use Rattle.std.proofs.Common.{◌≡◌, ℕ, List, [], ◌∷◌, ◌++◌, length, Some, refl, ap, subst, arith}
use Rattle.share_source.specs.Reads.{Fails, Gives}
use Rattle.share_source.specs.Candidates.{AreSharesRead, Candidates, IsShareRead, ShareRead}
use Rattle.share_source.specs.Decoded.{blocks_read}
use Rattle.share_source.specs.declared.place.Place.{Place}

-- a read more that brought a block
pub reads_more : (positions : List ℕ) (blocks : List (List ℕ)) (p : ℕ) (block : List ℕ) → length positions ≡ length blocks
    → blocks_read (positions ++ p ∷ []) (blocks ++ block ∷ []) ≡ blocks_read positions blocks ++ ShareRead.block p (Some block) ∷ []
reads_more [] [] p block e = refl
reads_more [] (b ∷ bs) p block e = absurd (omega (arith, e))
reads_more (q ∷ qs) [] p block e = absurd (omega (arith, e))
reads_more (q ∷ qs) (b ∷ bs) p block e = ap (λ (l : List ShareRead). ShareRead.block q (Some b) ∷ l) (reads_more qs bs p block (omega (arith, e)))

module _ {B : Type 0} (gives : Gives B) (fails : Fails B) (place : Place) where
  -- reads, and then others
  pub asked_append : (xs ys : List ShareRead) (old mid new : Candidates B) → AreSharesRead gives fails place old xs mid → AreSharesRead gives fails place mid ys new
      → AreSharesRead gives fails place old (xs ++ ys) new
  asked_append [] ys old mid new before after = subst (λ c. AreSharesRead gives fails place c ys new) before after
  asked_append (x ∷ xs) ys old mid new before after = (before.0, before.1, asked_append xs ys before.0 mid new before.2 after)

  -- one read
  pub asked_one : (read : ShareRead) (old new : Candidates B) → IsShareRead gives fails place old read new → AreSharesRead gives fails place old (read ∷ []) new
  asked_one read old new is = (new, is, refl)

  -- a read more
  pub asked_more : (xs : List ShareRead) (read : ShareRead) (old mid new : Candidates B) → AreSharesRead gives fails place old xs mid → IsShareRead gives fails place mid read new
      → AreSharesRead gives fails place old (xs ++ read ∷ []) new
  asked_more xs read old mid new before is = asked_append xs (read ∷ []) old mid new before (asked_one read mid new is)
