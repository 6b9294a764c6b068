-- What the calls on the shares that servers hold do.
use Rattle.std.specs.Prelude.{◌≡◌, ◌≢◌, ◌⊎◌, true, false, ℕ, ◌-◌, ◌<◌, ◌≤◌, List, []}
use Rattle.std.specs.Prelude.{take, ◌∷◌, ◌++◌, Option, Some, None}
use Rattle.std.specs.Prelude.{length, slice_get, All, Contains}
use Rattle.share_verify.specs.declared.check.Check.{Check}
use Rattle.wire.specs.declared.message.Body.TheVariants.{Have, NoShare}
use Rattle.wire.specs.declared.message.HeldShare.{HeldShare}
use Rattle.wire.specs.declared.message.Message.{Message}
use Rattle.request_record.specs.declared.requests.Asked.TheVariants.{Reading}
use Rattle.request_record.specs.declared.requests.Outcome.{Outcome}
use Rattle.request_record.specs.declared.requests.Outcome.TheVariants.{Answered}
use Rattle.request_record.specs.declared.requests.Request.{Request}
use Rattle.request_record.specs.Asking.{AreApart, after_message, after_tick, begun}
use Rattle.request_record.specs.Asking.{lost_by_tick}
use Rattle.request_record.specs.Record.{RequestsState, asked_more, counts_at}
use Rattle.download_shares.specs.Numbers.{no_holding}
use Rattle.download_shares.specs.HoldingState.{HoldingsState, NumberState, TableState}
use Rattle.download_shares.specs.Table.{IsHolding, IsNumber, Retires, told}
use Rattle.download_shares.specs.declared.holding.Holding.{Holding}
use Rattle.download_shares.specs.declared.holdings.Heard.{Heard}
use Rattle.download_shares.specs.declared.holdings.Heard.TheVariants as heard

-- each server is asked which shares it holds, and no share is known
pub record Begins (total : ℕ) (servers : List ℕ) (session now : ℕ) (s : HoldingsState)
    : Type 0 where
  pub requests : s.requests ≡ begun servers session now
  pub servers_are : s.servers ≡ length servers
  pub holdings : s.table.holdings ≡ []
  pub numbers : length s.table.numbers ≡ total
  pub unread : All (λ (n : NumberState). n ≡ no_holding) s.table.numbers
  pub owners : s.owners ≡ []
  pub blamed : s.blamed ≡ []

-- the record goes on, and nothing else
abbrev pub with_requests : RequestsState → HoldingsState → HoldingsState
with_requests r s = record s { requests = r }

-- all but the record and the holdings stays
pub record IsSame (old new : HoldingsState) : Type 0 where
  pub servers : new.servers ≡ old.servers
  pub owners : new.owners ≡ old.owners
  pub blamed : new.blamed ≡ old.blamed

-- the first shares that a server tells, so many, are holdings now
pub record Tells (server : ℕ) (held : List HeldShare) (count : ℕ) (old new : TableState)
    : Type 0 where
  pub holdings : new.holdings
      ≡ old.holdings ++ told (length old.numbers) server (take count held)
  pub long : length new.numbers ≡ length old.numbers
  pub reading : (share : ℕ) (n m : NumberState) → IsNumber old share n → IsNumber new share m
      → m.reading ≡ n.reading

-- what a request was answered, as shares that its server holds
abbrev pub held_by : Outcome → List HeldShare
held_by (Answered (Have readonly held)) = held
held_by outcome = []

-- the first shares of which the message tells, as the answer to the request at this position, so
-- many, are holdings now
pub record TellsHeld (position : ℕ) (m : Message) (old new : HoldingsState) (count : ℕ)
    : Type 0 where
  pub request : Request
  pub there : slice_get old.requests.entries position ≡ Some request
  pub tells : Tells request.server (held_by (Answered m.body)) count old.table new.table

-- what an answer that counts, to the request at this position, brings
abbrev pub Brings : ℕ → Message → HoldingsState → HoldingsState → Heard → Type 0
Brings position m old new heard.Nothing = ⊥
Brings position m old new heard.Held = (position < old.servers)
    × TellsHeld position m old new (length (held_by (Answered m.body)))
Brings position m old new (heard.Gone holding) = (old.servers ≤ position)
    × (slice_get old.owners (position - old.servers) ≡ Some holding)
    × (m.body ≡ NoShare) × Retires holding old.table new.table
Brings position m old new (heard.Bytes holding at) = (old.servers ≤ position) × (at ≡ position)
    × (slice_get old.owners (position - old.servers) ≡ Some holding) × (m.body ≢ NoShare)
    × (new.table ≡ old.table)

-- a message counts for nothing, or brings something
abbrev pub HearsAt : Option ℕ → Message → HoldingsState → HoldingsState → Heard → Type 0
HearsAt None m old new what = (what ≡ heard.Nothing) × (new.table ≡ old.table)
HearsAt (Some position) m old new what = Brings position m old new what

pub record Hears (from : ℕ) (m : Message) (now : ℕ) (old new : HoldingsState) (what : Heard)
    : Type 0 where
  pub same : IsSame old new
  pub requests : new.requests ≡ after_message from m now old.requests
  pub heard : HearsAt (counts_at from m old.requests) m old new what

-- none of these bytes of a holding's share was asked for
abbrev pub IsUnasked : HoldingsState → ℕ → ℕ → ℕ → Type 0
IsUnasked s holding offset len = (h : Holding) (i : ℕ) (r : Request) → IsHolding s.table holding h
    → slice_get s.requests.entries i ≡ Some r → r.server ≡ h.server
    → AreApart r.asked (Reading h.share offset len)

-- so many bytes of a holding's share are asked for, from an offset on
abbrev pub Asks : ℕ → ℕ → ℕ → HoldingsState → HoldingsState → Type 0
Asks holding offset len old new = (h : Holding) × IsHolding old.table holding h
    × (new ≡ record old {
      requests = asked_more h.server (Reading h.share offset len) old.requests;
      owners = old.owners ++ holding ∷ [];
    })

-- a holding's share failed a check
pub record Blames (holding : ℕ) (check : Check) (old new : HoldingsState) : Type 0 where
  pub held : Holding
  pub is : IsHolding old.table holding held
  pub blamed : new.blamed
      ≡ old.blamed ++ record { server = held.server; share = held.share; check = check } ∷ []
  pub retired : Retires holding old.table new.table
  pub others : new ≡ record old { table = new.table; blamed = new.blamed }

-- Holdings are retired, those at positions that pass this: they are not left any more. The others
-- are as they were.
abbrev pub IsAfter : (ℕ → Type 0) → ℕ → Holding → Holding → Type 0
IsAfter retired position h g = (g.server ≡ h.server) × (g.share ≡ h.share)
    × (g.suspended ≡ h.suspended) × (g.left ≡ true → (h.left ≡ true) × ¬ retired position)
    × (g.left ≡ false → (h.left ≡ false) ⊎ retired position)

-- of a number the one that is read stays so, where it is not retired
abbrev pub StaysRead : (ℕ → Type 0) → NumberState → NumberState → Type 0
StaysRead retired n m = (m.reading ≡ n.reading) ⊎ ((position : ℕ) × (n.reading ≡ Some position)
    × retired position × (m.reading ≡ None))

pub record RetiresAll (retired : ℕ → Type 0) (old new : TableState) : Type 0 where
  pub long : length new.holdings ≡ length old.holdings
  pub holdings : (position : ℕ) (h g : Holding) → IsHolding old position h
      → IsHolding new position g
      → IsAfter retired position h g
  pub count : length new.numbers ≡ length old.numbers
  pub numbers : (share : ℕ) (n m : NumberState) → IsNumber old share n → IsNumber new share m
      → StaysRead retired n m

-- one of the requests at these positions asks for bytes of the holding's share
abbrev pub IsAmong : ℕ → List ℕ → List ℕ → ℕ → Type 0
IsAmong servers owners positions holding = (position : ℕ) × Contains positions position
    × (servers ≤ position)
    × (slice_get owners (position - servers) ≡ Some holding)

-- A tick: the holdings of which it finds a request lost are retired.
pub record Ticks (now : ℕ) (old new : HoldingsState) : Type 0 where
  pub same : IsSame old new
  pub requests : new.requests ≡ after_tick now old.requests
  pub table : RetiresAll (IsAmong old.servers old.owners (lost_by_tick now old.requests))
      old.table new.table
