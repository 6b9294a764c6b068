-- The bytes that a check keeps of a share.
use Rattle.std.specs.Prelude.{◌≡◌, ℕ, Bool, true, List, [], ◌++◌, if◌then◌else◌}
use Rattle.share_reading.specs.OpeningReads.{Brought}
use Rattle.share_reading.specs.Whole.{joined}
use Rattle.checker.specs.declared.pieces.Pieces.{Pieces}

-- none were read
pub record IsEmpty (keeps : Bool) (p : Pieces) : Type 0 where
  pub keeps_is : p.keeps ≡ keeps
  pub front : p.front.items ≡ []
  pub back : p.back.items ≡ []

-- these bytes are kept too, where they are kept: from the first on, or behind the rest
pub record HasAdded (behind : Bool) (bytes : List ℕ) (old new : Pieces) : Type 0 where
  pub keeps : new.keeps ≡ old.keeps
  pub front : old.keeps ≡ true → new.front.items
      ≡ (if behind then old.front.items else old.front.items ++ bytes)
  pub back : old.keeps ≡ true → new.back.items
      ≡ (if behind then old.back.items ++ bytes else old.back.items)

-- what these reads brought is kept, where bytes are kept
pub record HasPieces (front back : List Brought) (p : Pieces) : Type 0 where
  pub front_is : p.keeps ≡ true → p.front.items ≡ joined front
  pub back_is : p.keeps ≡ true → p.back.items ≡ joined back
