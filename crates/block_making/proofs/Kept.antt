-- What slots hold once one of them is set.
use Rattle.std.proofs.Common.{◌≡◌, ◌⊎◌, ◌<◌, ℕ, zero, suc, List, [], ◌∷◌, length, map, replicate, Option, None, Some, inl, inr, ap, sym, ◌∙◌}
use Rattle.std.specs.Prelude.{slice_get, slice_set}
use Rattle.std.proofs.lemmas.Option.{same_Some}
use Rattle.lemmas.proofs.Positions.{get_map, get_of, get_set, replicated}
use Rattle.block_making.specs.Slots.{Keeps, KeptBlock, held}
use Rattle.block_making.specs.declared.slot.Slot.{Slot}

abbrev pub held_in : Slot → Option KeptBlock
held_in slot = held slot.name slot.bytes.items

-- free slots keep nothing
pub free-none : (n : ℕ) (block : KeptBlock) → Keeps (replicate n None) block → ⊥
free-none n block keeps = absurd (cc (replicated n keeps.slot None (Some block) keeps.here))

-- a slot that is set holds its block, and each other what it held
module _ (slots : List Slot) (position : ℕ) (slot : Slot) (block : KeptBlock) (is : held_in slot ≡ Some block) where
  from_set : (xs : List Slot) (at i : ℕ) (b : KeptBlock) → slice_get (map held_in (slice_set xs at slot)) i ≡ Some (Some b)
      → (Some block ≡ Some b) ⊎ (slice_get (map held_in xs) i ≡ Some (Some b))
  from_set [] at i b here = inr here
  from_set (x ∷ xs) zero zero b here = inl (sym is ∙ same_Some (held_in slot) (Some b) here)
  from_set (x ∷ xs) zero (suc i) b here = inr here
  from_set (x ∷ xs) (suc at) zero b here = inr here
  from_set (x ∷ xs) (suc at) (suc i) b here = from_set xs at i b here

  pub set-others : (other : KeptBlock) → Keeps (map held_in (slice_set slots position slot)) other → (other ≡ block) ⊎ Keeps (map held_in slots) other
  set-others other keeps = elim (from_set slots position keeps.slot other keeps.here) [
    | inl new ↦ inl (sym (same_Some block other new))
    | inr old ↦ inr record { slot = keeps.slot; here = old }
  ]

  pub set-kept : position < length slots → Keeps (map held_in (slice_set slots position slot)) block
  set-kept within =
      let old = get_of slots position within in
      record { slot = position; here = get_map held_in (slice_set slots position slot) position slot (get_set slots position slot old.0 old.1) ∙ ap Some is }
