-- What is asked of a supply.
use Rattle.std.specs.Prelude.{◌≡◌, ◌≢◌, ◌⊎◌, ◌↔◌, ℕ, ◌+◌, ◌<◌, ◌≤◌, List, map, All, AllPairs}
use Rattle.std.specs.Prelude.{Contains}
use Rattle.share_layout.specs.Geometry.{Geometry}
use Rattle.download_parts.specs.Plan.{IsNodePiece, IsPart, length_of, max_read, offset_of}
use Rattle.download_parts.specs.declared.part.Part.{Part}
use Rattle.download_parts.specs.declared.part.Part.TheVariants.{CiphertextTree}
use Rattle.download_supply.specs.Cursors.{IsPassed, LeadOn, cursor_at}
use Rattle.download_supply.specs.Supply.{SupplyState, first_of}
use Rattle.download_supply.specs.Upper.{UpperComeFirst}
use Rattle.download_supply.specs.declared.wanted.Wanted.{Wanted}

-- the parts that are asked
abbrev pub parts_of : List Wanted → List Part
parts_of wanted = map (λ w. w.part) wanted

-- it is a part of the plan for the segments `a` to before `b`, at its offset and of its length
pub record IsReadBy (g : Geometry) (a b : ℕ) (w : Wanted) : Type 0 where
  pub part : IsPart g a b w.part
  pub offset : w.read.offset ≡ offset_of g a b w.part
  pub length : w.read.length ≡ length_of g a b w.part
  pub some : 0 < w.read.length
  pub few : w.read.length ≤ max_read

-- it is a part that the supply is read in, at its offset and of its length
abbrev pub IsReadOf : SupplyState → Wanted → Type 0
IsReadOf s w = IsReadBy s.geometry (first_of s w.part) s.end w

-- The part was asked. Of the ciphertext tree it is asked for what comes after the pieces that were
-- taken before it became the giver.
abbrev pub IsAsked : SupplyState → Part → Type 0
IsAsked s (CiphertextTree p) =
    (cursor_at s.given p.level ≤ p.index) × IsPassed s.asked (CiphertextTree p)
IsAsked s part = IsPassed s.asked part

-- These parts are asked now, one after another, each once, and a piece of a tree after the piece
-- over it. None of them was asked before, and nothing else is asked.
pub record AsksNow (old new : SupplyState) (wanted : List Wanted) : Type 0 where
  pub reads : All (IsReadOf old) wanted
  pub in_order : LeadOn old.asked (parts_of wanted) new.asked
  pub upper : UpperComeFirst old.geometry (first_of old) old.asked (parts_of wanted)
  pub fresh : (part : Part) → Contains (parts_of wanted) part → ¬ IsAsked old part
  pub different : AllPairs (λ part other. part ≢ other) (parts_of wanted)
  pub asked : (part : Part)
      → IsAsked new part ↔ (IsAsked old part ⊎ Contains (parts_of wanted) part)

-- What a supply is to be asked of its own plan for the segments up to this one: the parts of the
-- plan that ends with it. Beyond the supply's segments it is nothing.
pub record IsWithin (s : SupplyState) (last : ℕ) : Type 0 where
  pub from : s.first ≤ last
  pub before : last < s.end

abbrev pub IsWanted : SupplyState → ℕ → Part → Type 0
IsWanted s last (CiphertextTree p) = ⊥
IsWanted s last part = IsWithin s last × IsPart s.geometry s.first (last + 1) part

-- the same of the ciphertext tree, by the plan of the whole download, of what was not taken before
-- it became the giver
abbrev pub IsWantedCiphertext : SupplyState → ℕ → Part → Type 0
IsWantedCiphertext s last (CiphertextTree p) =
    (s.start ≤ last) × (last < s.end) × (cursor_at s.given p.level ≤ p.index)
    × IsNodePiece s.geometry s.start (last + 1) p
IsWantedCiphertext s last part = ⊥

-- all but what is asked is as it was
abbrev pub OnlyAsks : SupplyState → SupplyState → Type 0
OnlyAsks old new = new ≡ record old { asked = new.asked }
