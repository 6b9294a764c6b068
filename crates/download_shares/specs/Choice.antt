-- How a holding is chosen.
use Rattle.std.specs.Prelude.{◌≡◌, ℕ, ◌<◌, true, false, List, Option, Some, None, Contains}
use Rattle.download_shares.specs.HoldingState.{TableState}
use Rattle.download_shares.specs.Table.{IsFree, IsHolding}
use Rattle.download_shares.specs.declared.holding.Holding.{Holding}

-- one of these holdings that may be chosen, where there is one
abbrev pub Chooses : TableState → List ℕ → Option ℕ → Type 0
Chooses t positions None = (position : ℕ) (h : Holding) → Contains positions position
    → IsHolding t position h → h.suspended ≡ true
Chooses t positions (Some position) = Contains positions position
    × ((h : Holding) × IsHolding t position h × (h.suspended ≡ false))

-- no holding of a share number before this one may be read now
abbrev pub NoneIsFreeBefore : TableState → ℕ → Type 0
NoneIsFreeBefore t end = (position : ℕ) (h : Holding) → IsHolding t position h → IsFree t h
    → h.share < end → ⊥
