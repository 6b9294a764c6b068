-- What reads of shares at the servers of a grid bring.
use Rattle.std.specs.Prelude.{◌≡◌, ◌⊎◌, ℕ, ◌+◌, ◌-◌, ◌^◌, ◌≤◌, Bool, true, false, List, length, min}
use Rattle.std.specs.Prelude.{None, Some, slice_get}
use Rattle.wire.specs.declared.message.Body.{Body}
use Rattle.request_record.specs.declared.requests.Outcome.TheVariants.{Answered}
use Rattle.request_record.specs.declared.requests.Request.{Request}
use Rattle.local_grid.specs.Turns.{Course}
use Rattle.local_grid.specs.Outside.{OutsideCalls}
use Rattle.local_grid.specs.OutsideTurns.{GoesPast, LoopState, Turns}
use Rattle.carried_operations.specs.Came.{Came}
use Rattle.carried_operations.specs.Fetches.{Begins, FetchState, IsFetched, fetch_calls}
use Rattle.carried_operations.specs.declared.range.SharePlace.{SharePlace}

-- the servers, the storage index of the file, where its shares stand, the session of the next read,
-- and whether memory was refused to one
pub record FetchedState (G : Type 0) : Type 0 where
  pub outside : G
  pub index : List ℕ
  pub places : List SharePlace
  pub session : ℕ
  pub lacks_memory : Bool

-- the session after another; it stops at its greatest value
abbrev pub next_session : ℕ → ℕ
next_session session = min (session + 1) (2 ^ 64 - 1)

-- the same with these servers after a read
abbrev pub after_read : {G : Type 0} → FetchedState G → G → FetchedState G
after_read s outside = record s { outside = outside; session = next_session s.session }

-- A read of a range of the share at a position begins: in the next session, at the second that is.
pub record BeginsRead {G : Type 0} (calls : OutsideCalls G) (s : FetchedState G)
    (position offset length : ℕ) (begun : FetchState) : Type 0 where
  pub place : SharePlace
  pub there : slice_get s.places position ≡ Some place
  pub begins : Begins s.index (record { place = place; offset = offset; length = length })
      s.session (calls.clock s.outside) begun

-- A read was carried, turn after turn, as far as it goes. It is of the same range, and each answer
-- that it has came in one of the turns, from the server that was asked.
pub record IsCarried {G : Type 0} (calls : OutsideCalls G) (begun : FetchState) (old : G)
    (ended : FetchState) (new : G) : Type 0 where
  pub states : List (LoopState FetchState G)
  pub turns : Course (Turns fetch_calls calls) (record { operation = begun; outside = old }) states
      (record { operation = ended; outside = new })
  pub ends : fetch_calls.runs ended ≡ false
  pub range : ended.range ≡ begun.range
  pub came : (position : ℕ) (r : Request) (said : Body)
      → slice_get ended.requests.entries position ≡ Some r → r.outcome ≡ Answered said
      → Came fetch_calls calls begun.requests.session
      (record { operation = begun; outside = old }) states position r.server r.asked said

-- These bytes were read of the share at a position, from an offset on: a read of the range was
-- carried to its end, and each of its requests was answered by its part of them.
pub record IsReadOver {G : Type 0} (calls : OutsideCalls G) (old : FetchedState G)
    (position offset : ℕ) (bytes : List ℕ) (new : FetchedState G) : Type 0 where
  pub begun : FetchState
  pub begins : BeginsRead calls old position offset (length bytes) begun
  pub ended : FetchState
  pub carried : IsCarried calls begun old.outside ended new.outside
  pub fetched : IsFetched ended bytes
  pub others : new ≡ after_read old new.outside

-- Why no bytes came though memory was there: no share stands at the position; the range has no end;
-- a read of it was carried to its end, and not each of its requests was answered by as many bytes
-- as it asked for; or the turns of the loop were not enough.
pub data IsUnanswered {G : Type 0} (calls : OutsideCalls G) (old : FetchedState G)
    (position offset length : ℕ) (new : FetchedState G) : Type 0 where
  nowhere : slice_get old.places position ≡ None
      → IsUnanswered calls old position offset length new
  endless : 2 ^ 64 ≤ offset + length → IsUnanswered calls old position offset length new
  missing : (begun ended : FetchState) → BeginsRead calls old position offset length begun
      → IsCarried calls begun old.outside ended new.outside
      → ((bytes : List ℕ) → IsFetched ended bytes → ⊥)
      → IsUnanswered calls old position offset length new
  unended : (begun ended : FetchState) → BeginsRead calls old position offset length begun
      → GoesPast fetch_calls calls 100000000
      (record { operation = begun; outside = old.outside })
      (record { operation = ended; outside = new.outside })
      → IsUnanswered calls old position offset length new

-- the shares are those of before, wherever the servers stand now
pub record StayOtherwise {G : Type 0} (old new : FetchedState G) : Type 0 where
  pub index : new.index ≡ old.index
  pub places : new.places ≡ old.places
  pub lacks_memory : new.lacks_memory ≡ old.lacks_memory

-- no bytes were read: memory was refused, or none came
pub record IsUnread {G : Type 0} (calls : OutsideCalls G) (old : FetchedState G)
    (position offset length : ℕ) (new : FetchedState G) : Type 0 where
  pub index : new.index ≡ old.index
  pub places : new.places ≡ old.places
  pub why : (new.lacks_memory ≡ true)
      ⊎ ((new.lacks_memory ≡ old.lacks_memory)
      × IsUnanswered calls old position offset length new)
