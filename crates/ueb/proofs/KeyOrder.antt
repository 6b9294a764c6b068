-- The keys in their order, and the first one of which something holds.
use Rattle.std.proofs.Common.{◌≡◌, ℕ, zero, suc, ◌+◌, ◌<◌, ◌≤◌, get_or, refl, sym, subst, ap, inl, inr, arith, lit<, ◌∙◌, below_more}
use Rattle.std.proofs.lemmas.Bool.{cases_order}
use Rattle.ueb.specs.declared.key.Key.{Key}
use Rattle.ueb.specs.declared.key.Key.TheVariants.{CodecName, CodecParams, CrypttextHash, CrypttextRootHash, NeededShares, NumSegments, SegmentSize, ShareRootHash, Size, TailCodecParams, TotalShares}
use Rattle.ueb.specs.declared.key.TheConstants.Key.{ALL}
use Rattle.ueb.specs.Key.{position, IsFirst}

abbrev pub key_at : ℕ → Key
key_at i = get_or ALL i CodecName

position_below : (key : Key) → position key < 11
position_below CodecName = lit< tt
position_below CodecParams = lit< tt
position_below CrypttextHash = lit< tt
position_below CrypttextRootHash = lit< tt
position_below NeededShares = lit< tt
position_below NumSegments = lit< tt
position_below SegmentSize = lit< tt
position_below ShareRootHash = lit< tt
position_below Size = lit< tt
position_below TailCodecParams = lit< tt
position_below TotalShares = lit< tt

key_at-position : (key : Key) → key_at (position key) ≡ key
key_at-position CodecName = refl
key_at-position CodecParams = refl
key_at-position CrypttextHash = refl
key_at-position CrypttextRootHash = refl
key_at-position NeededShares = refl
key_at-position NumSegments = refl
key_at-position SegmentSize = refl
key_at-position ShareRootHash = refl
key_at-position Size = refl
key_at-position TailCodecParams = refl
key_at-position TotalShares = refl

position-key_at : (i : ℕ) → i < 11 → position (key_at i) ≡ i
position-key_at zero lt = refl
position-key_at (suc zero) lt = refl
position-key_at (suc (suc zero)) lt = refl
position-key_at (suc (suc (suc zero))) lt = refl
position-key_at (suc (suc (suc (suc zero)))) lt = refl
position-key_at (suc (suc (suc (suc (suc zero))))) lt = refl
position-key_at (suc (suc (suc (suc (suc (suc zero)))))) lt = refl
position-key_at (suc (suc (suc (suc (suc (suc (suc zero))))))) lt = refl
position-key_at (suc (suc (suc (suc (suc (suc (suc (suc zero)))))))) lt = refl
position-key_at (suc (suc (suc (suc (suc (suc (suc (suc (suc zero))))))))) lt = refl
position-key_at (suc (suc (suc (suc (suc (suc (suc (suc (suc (suc zero)))))))))) lt = refl
position-key_at (suc (suc (suc (suc (suc (suc (suc (suc (suc (suc (suc i))))))))))) lt = absurd (omega arith)

-- Q holds of the keys before this position
pub record HoldsBefore (Q : Key → Type 0) (i : ℕ) : Type 0 where
  pub each : (j : ℕ) → j < i → Q (key_at j)

pub none_yet : (Q : Key → Type 0) → HoldsBefore Q 0
none_yet Q = record { each = λ j lt. absurd (omega arith) }

pub one_more : (Q : Key → Type 0) (i : ℕ) → HoldsBefore Q i → Q (key_at i) → HoldsBefore Q (i + 1)
one_more Q i before here = record { each = below_more (λ j. Q (key_at j)) i before.each here }

pub all_of_them : (Q : Key → Type 0) (i : ℕ) → 11 ≤ i → HoldsBefore Q i → (key : Key) → Q key
all_of_them Q i past before key =
    subst (λ (k : Key). Q k) (key_at-position key) (before.each (position key) (omega (arith, position_below key)))

pub first_here : (P Q : Key → Type 0) (i : ℕ) → i < 11 → ((key : Key) → Q key → P key → ⊥) → HoldsBefore Q i → P (key_at i) → IsFirst P (key_at i)
first_here P Q i lt apart before here = record {
  holds = here;
  before = λ other earlier p.
      let near : position other < i = omega (arith, earlier, position-key_at i lt) in
      apart other (subst (λ (k : Key). Q k) (key_at-position other) (before.each (position other) near)) p;
}

same_position : (a b : Key) → position a ≡ position b → a ≡ b
same_position a b e = sym (key_at-position a) ∙ ap key_at e ∙ key_at-position b

pub first_unique : (P : Key → Type 0) (a b : Key) → IsFirst P a → IsFirst P b → a ≡ b
first_unique P a b p q =
    elim (cases_order (position a) (position b)) [
      | inl same ↦ same_position a b same
      | inr (inl earlier) ↦ absurd (q.before a earlier p.holds)
      | inr (inr later) ↦ absurd (p.before b later q.holds)
    ]
