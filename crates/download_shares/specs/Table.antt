-- The holdings, and for each share number those that are left.
use Rattle.std.specs.Prelude.{◌≡◌, ℕ, ◌<◌, Bool, true, false, List}
use Rattle.std.specs.Prelude.{Some, None, length, map, filter, nat_lt, slice_get, slice_set}
use Rattle.std.specs.Prelude.{Contains}
use Rattle.wire.specs.declared.message.HeldShare.{HeldShare}
use Rattle.download_shares.specs.Numbers.{released, taken_up, without_position}
use Rattle.download_shares.specs.HoldingState.{NumberState, TableState}
use Rattle.download_shares.specs.declared.holding.Holding.{Holding}

-- the holding at this position
abbrev pub IsHolding : TableState → ℕ → Holding → Type 0
IsHolding t position h = slice_get t.holdings position ≡ Some h

-- what is listed of a share number
abbrev pub IsNumber : TableState → ℕ → NumberState → Type 0
IsNumber t share n = slice_get t.numbers share ≡ Some n

-- Each number lists its holdings that are left, and the one that is read is one of these.
pub record IsTable (t : TableState) : Type 0 where
  pub below : (position : ℕ) (h : Holding) → IsHolding t position h → h.share < length t.numbers
  pub listed : (position : ℕ) (h : Holding) (n : NumberState) → IsHolding t position h
      → h.left ≡ true → IsNumber t h.share n → Contains n.left position
  pub positions : (share position : ℕ) (n : NumberState) → IsNumber t share n
      → Contains n.left position
      → (h : Holding) × IsHolding t position h × (h.share ≡ share) × (h.left ≡ true)
  pub reading : (share position : ℕ) (n : NumberState) → IsNumber t share n
      → n.reading ≡ Some position → Contains n.left position

-- a share that a server tells: it is left, and may be chosen
abbrev pub told_one : ℕ → ℕ → Holding
told_one server share =
    record { server = server; share = share; left = true; suspended = false }

-- those of the shares that a server tells whose numbers count
abbrev pub told : ℕ → ℕ → List HeldShare → List Holding
told total server held = map (λ (h : HeldShare). told_one server h.share)
    (filter (λ (h : HeldShare). nat_lt h.share total) held)

-- the holding may be read now: it is left, it may be chosen, and none of its number is read
pub record IsFree (t : TableState) (h : Holding) : Type 0 where
  pub left : h.left ≡ true
  pub choosable : h.suspended ≡ false
  pub number : NumberState
  pub there : IsNumber t h.share number
  pub unread : number.reading ≡ None

-- no holding may be read now
abbrev pub NoneIsFree : TableState → Type 0
NoneIsFree t = (position : ℕ) (h : Holding) → IsHolding t position h → IsFree t h → ⊥

-- one holding is changed so
pub record ChangesHolding (position : ℕ) (change : Holding → Holding) (old new : TableState)
    (h : Holding) : Type 0 where
  pub is : IsHolding old position h
  pub holdings : new.holdings ≡ slice_set old.holdings position (change h)

-- one share number is changed so
pub record ChangesNumber (share : ℕ) (change : NumberState → NumberState) (old new : TableState)
    : Type 0 where
  pub number : NumberState
  pub is : IsNumber old share number
  pub numbers : new.numbers ≡ slice_set old.numbers share (change number)

-- a holding is not left any more, and not read
abbrev pub Retires : ℕ → TableState → TableState → Type 0
Retires position old new = (h : Holding)
    × ChangesHolding position (λ (h : Holding). record h { left = false }) old new h
    × ChangesNumber h.share (without_position position) old new

-- one is read from now on
abbrev pub TakesUp : ℕ → TableState → TableState → Type 0
TakesUp position old new = (h : Holding) × IsHolding old position h × (new.holdings ≡ old.holdings)
    × ChangesNumber h.share
    (λ (n : NumberState). record n { reading = taken_up position n.reading })
    old new

-- one is read no more, and may be read again
abbrev pub Releases : ℕ → TableState → TableState → Type 0
Releases position old new = (h : Holding) × IsHolding old position h × (new.holdings ≡ old.holdings)
    × ChangesNumber h.share
    (λ (n : NumberState). record n { reading = released position n.reading })
    old new

-- whether one may be chosen is changed
abbrev pub Suspends : Bool → ℕ → TableState → TableState → Type 0
Suspends suspended position old new = (new.numbers ≡ old.numbers) × ((h : Holding)
    × ChangesHolding position (λ (h : Holding). record h { suspended = suspended }) old new h)
