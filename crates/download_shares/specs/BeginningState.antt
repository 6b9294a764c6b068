-- The shares that servers hold, and how far the beginning of each is read.
use Rattle.std.specs.Prelude.{◌≡◌, ℕ, List, Some, None, slice_get}
use Rattle.download_shares.specs.HoldingState.{HoldingsState}
use Rattle.download_shares.specs.declared.begun.Begun.{Begun}

-- `begun` has one for each holding, in the same order
pub record BeginningsState : Type 0 where
  pub holdings : HoldingsState
  pub begun : List Begun

-- the value of beginnings with these fields
abbrev pub beginnings_state : HoldingsState → List Begun → BeginningsState
beginnings_state holdings begun = record { holdings = holdings; begun = begun }

-- how far the share of the holding at this position is read
abbrev pub IsBegun : BeginningsState → ℕ → Begun → Type 0
IsBegun s position b = slice_get s.begun position ≡ Some b

-- nothing of it is read
abbrev pub unbegun : Begun
unbegun = record { opening = None; waiting = None; reader = None }
