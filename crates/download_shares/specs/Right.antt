-- What holds of the shares that servers hold.
use Rattle.std.specs.Prelude.{◌≡◌, ◌⊎◌, ℕ, ◌+◌, ◌<◌, true, false, length, slice_get, Some}
use Rattle.request_record.specs.Asking.{AsksOnce}
use Rattle.request_record.specs.declared.requests.Asked.TheVariants.{Holdings, Reading}
use Rattle.request_record.specs.declared.requests.Request.{Request}
use Rattle.download_shares.specs.Left.{IsBlamed, IsGone, IsLeft, IsOffered}
use Rattle.download_shares.specs.HoldingState.{HoldingsState}
use Rattle.download_shares.specs.Table.{IsHolding}
use Rattle.download_shares.specs.declared.holding.Blame.{Blame}
use Rattle.download_shares.specs.declared.holding.Holding.{Holding}

-- the request asks for bytes of the share
pub record IsReadOf (h : Holding) (r : Request) : Type 0 where
  pub of_server : r.server ≡ h.server
  pub offset : ℕ
  pub len : ℕ
  pub asked : r.asked ≡ Reading h.share offset len

-- the request at this position asks for bytes of the share of this holding
pub record IsOwned (s : HoldingsState) (position holding : ℕ) : Type 0 where
  pub held : Holding
  pub is : IsHolding s.table holding held
  pub request : Request
  pub there : slice_get s.requests.entries position ≡ Some request
  pub read : IsReadOf held request

-- No server is asked the same thing twice. The holdings are shares that servers offered, each once,
-- and they tell truly which are left.
pub record IsRight (s : HoldingsState) : Type 0 where
  pub once : AsksOnce s.requests.entries
  pub first : (i : ℕ) (r : Request) → slice_get s.requests.entries i ≡ Some r → i < s.servers
      → r.asked ≡ Holdings
  pub counted : length s.requests.entries ≡ s.servers + length s.owners
  pub owned : (i holding : ℕ) → slice_get s.owners i ≡ Some holding
      → IsOwned s (s.servers + i) holding
  pub offered : (position : ℕ) (h : Holding) → IsHolding s.table position h
      → IsOffered s.requests.entries h.server h.share
  pub distinct : (i j : ℕ) (a b : Holding) → i < j → IsHolding s.table i a
      → IsHolding s.table j b → a.server ≡ b.server → a.share ≡ b.share → ⊥
  pub left : (position : ℕ) (h : Holding) → IsHolding s.table position h → h.left ≡ true
      → IsLeft s.requests.entries s.blamed h.server h.share
  pub others : (position : ℕ) (h : Holding) → IsHolding s.table position h → h.left ≡ false
      → IsGone s.requests.entries h.server h.share ⊎ IsBlamed s.blamed h.server h.share
  pub blamed : (i : ℕ) (b : Blame) → slice_get s.blamed i ≡ Some b → (position : ℕ) × ((h : Holding)
      × IsHolding s.table position h × (b.server ≡ h.server) × (b.share ≡ h.share))

-- each share that a server offered, and whose number counts, is among the holdings
abbrev pub AreAllHeld : HoldingsState → Type 0
AreAllHeld s = (server share : ℕ) → IsOffered s.requests.entries server share
    → share < length s.table.numbers → (position : ℕ) × (h : Holding) × IsHolding s.table position h
    × (h.server ≡ server) × (h.share ≡ share)
