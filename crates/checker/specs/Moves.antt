-- What the calls of a check do.
use Rattle.std.specs.Prelude.{◌≡◌, ◌≢◌, ℕ, Bool, true, false, List, [], All}
use Rattle.cap_text.specs.Cap.{VerifyCapValue}
use Rattle.wire.specs.declared.message.Message.{Message}
use Rattle.request_record.specs.declared.requests.Asked.{Asked}
use Rattle.request_record.specs.declared.requests.Asked.TheVariants.{Holdings, Allocation}
use Rattle.request_record.specs.declared.requests.Asked.TheVariants.{Writing, Closing}
use Rattle.request_record.specs.declared.requests.Asked.TheVariants.{Reading, Aborting}
use Rattle.request_record.specs.Asking.{after_message, after_tick, begun}
use Rattle.request_record.specs.Record.{RequestsState, asked_all}
use Rattle.checker.specs.declared.status.CheckStatus.TheVariants.{Running, Done, Failed}
use Rattle.checker.specs.State.{CheckState, with_record}

-- A check begins: all servers are asked. One without servers is done.
pub record Begins (cap : VerifyCapValue) (servers : List ℕ) (session now : ℕ) (c : CheckState)
    : Type 0 where
  pub of_cap : c.cap ≡ cap
  pub of_servers : c.servers ≡ servers
  pub asks : c.requests ≡ begun servers session now
  pub runs : servers ≢ [] → c.status ≡ Running
  pub alone : servers ≡ [] → c.status ≡ Done

-- does it ask for bytes of a share?
abbrev pub is_read : Asked → Bool
is_read Holdings = false
is_read (Allocation share len) = false
is_read (Writing share offset len) = false
is_read (Closing share) = false
is_read (Reading share offset len) = true
is_read (Aborting share) = false

-- The record goes on from a message or a tick, and while the check runs more of the shares may be
-- asked for. A check that has not failed does not fail.
pub record GoesOn (r : RequestsState) (old new : CheckState) : Type 0 where
  pub cap : new.cap ≡ old.cap
  pub servers : new.servers ≡ old.servers
  pub keeps : new.keeps ≡ old.keeps
  pub asks : List (ℕ × Asked)
  pub reads : All (λ (ask : ℕ × Asked). is_read ask.1 ≡ true) asks
  pub requests : new.requests ≡ asked_all asks r
  pub ended : old.status ≢ Running → new ≡ with_record old r
  pub fails : old.status ≢ Failed → new.status ≢ Failed

abbrev pub Advances : ℕ → Message → ℕ → CheckState → CheckState → Type 0
Advances from m now old new = GoesOn (after_message from m now old.requests) old new

abbrev pub TicksOn : ℕ → CheckState → CheckState → Type 0
TicksOn now old new = GoesOn (after_tick now old.requests) old new

-- A step found no memory: the record went on, and more of the shares may be asked for.
pub record Stops (r : RequestsState) (old new : CheckState) : Type 0 where
  pub cap : new.cap ≡ old.cap
  pub servers : new.servers ≡ old.servers
  pub keeps : new.keeps ≡ old.keeps
  pub asks : List (ℕ × Asked)
  pub reads : All (λ (ask : ℕ × Asked). is_read ask.1 ≡ true) asks
  pub requests : new.requests ≡ asked_all asks r

-- A tick that finds no memory makes a check fail, and its record is as it was, or went on.
pub data FailsAt (now : ℕ) (old new : CheckState) : Type 0 where
  at_once : new ≡ record old { status = Failed } → FailsAt now old new
  later : new.status ≡ Failed → Stops (after_tick now old.requests) old new → FailsAt now old new

-- A tick finds no memory: a check that runs fails, and one that ended is as it was.
pub record StopsAt (now : ℕ) (old new : CheckState) : Type 0 where
  pub running : old.status ≡ Running → FailsAt now old new
  pub ended : old.status ≢ Running → new ≡ old
