-- Whatever a call does, the record of a check goes on: also where it was refused memory.
use Rattle.std.proofs.Common.{◌≡◌, ℕ, List, Option, Some, None, refl, sym, subst, ap}
use Rattle.wire.specs.declared.message.Message.{Message}
use Rattle.request_record.specs.declared.requests.Asked.{Asked}
use Rattle.request_record.specs.Asking.{after_message, after_tick}
use Rattle.request_record.specs.Follow.{Follows, IsSaid, Nothing, Said}
use Rattle.request_record.specs.Record.{RequestsState, asked_all}
use Rattle.request_record.proofs.FollowLaws.{follows_asks, follows_itself, follows_message, follows_on, follows_same, follows_tick}
use Rattle.checker.specs.Moves.{Advances, FailsAt, Stops, StopsAt, TicksOn, at_once, later}
use Rattle.checker.specs.Sending.{Takes}
use Rattle.checker.specs.State.{CheckState}
use Rattle.checker.specs.declared.status.CheckStatus.{CheckStatus}
use Rattle.checker.specs.declared.status.CheckStatus.TheVariants.{Running, Done, Failed}

-- the record goes on, and then more is asked
follows_more : (New : Said) (old r : RequestsState) (asks : List (ℕ × Asked)) (new : RequestsState) → Follows New old r → new ≡ asked_all asks r → Follows New old new
follows_more New old r asks new goes is = subst (Follows New old) (sym is) (follows_on New old r (asked_all asks r) goes (follows_asks asks r))

-- the same record
follows_kept : (New : Said) (old new : CheckState) → new ≡ old → Follows New old.requests new.requests
follows_kept New old new is = subst (λ (c : CheckState). Follows New old.requests c.requests) (sym is) (follows_itself New old.requests)

pub follows_advances : (from : ℕ) (m : Message) (now : ℕ) (old new : CheckState) → Advances from m now old new → Follows (IsSaid from m old.requests.session) old.requests new.requests
follows_advances from m now old new on =
    follows_more (IsSaid from m old.requests.session) old.requests (after_message from m now old.requests) on.asks new.requests (follows_message from now m old.requests) on.requests

-- a message that found no memory
pub follows_stops : (from : ℕ) (m : Message) (now : ℕ) (old new : CheckState) → Stops (after_message from m now old.requests) old new → Follows (IsSaid from m old.requests.session) old.requests new.requests
follows_stops from m now old new on =
    follows_more (IsSaid from m old.requests.session) old.requests (after_message from m now old.requests) on.asks new.requests (follows_message from now m old.requests) on.requests

pub follows_ticks : (now : ℕ) (old new : CheckState) → TicksOn now old new → Follows Nothing old.requests new.requests
follows_ticks now old new on = follows_more Nothing old.requests (after_tick now old.requests) on.asks new.requests (follows_tick now old.requests) on.requests

-- a tick that found no memory
pub follows_fails : (now : ℕ) (old new : CheckState) → FailsAt now old new → Follows Nothing old.requests new.requests
follows_fails now old new (at_once is) = subst (λ (c : CheckState). Follows Nothing old.requests c.requests) (sym is) (follows_itself Nothing old.requests)
follows_fails now old new (later failed on) = follows_more Nothing old.requests (after_tick now old.requests) on.asks new.requests (follows_tick now old.requests) on.requests

stops_so : (now : ℕ) (old new : CheckState) (s : CheckStatus) → old.status ≡ s → StopsAt now old new → Follows Nothing old.requests new.requests
stops_so now old new Running is stops = follows_fails now old new (stops.running is)
stops_so now old new Done is stops = follows_kept Nothing old new (stops.ended (λ runs. cc))
stops_so now old new Failed is stops = follows_kept Nothing old new (stops.ended (λ runs. cc))

pub follows_stops_at : (now : ℕ) (old new : CheckState) → StopsAt now old new → Follows Nothing old.requests new.requests
follows_stops_at now old new stops = stops_so now old new old.status refl stops

pub follows_takes : (old new : CheckState) (taken : Option (ℕ × Message)) → Takes old taken new → Follows Nothing old.requests new.requests
follows_takes old new None takes = follows_kept Nothing old new takes.1
follows_takes old new (Some f) takes =
    let is = ap (λ (c : CheckState). c.requests) takes.3 in
    follows_same Nothing old.requests new.requests (ap (λ (r : RequestsState). r.session) is) (ap (λ (r : RequestsState). r.entries) is)
