-- The record of a download goes on, whatever a call does.
use Rattle.std.proofs.Common.{◌≡◌, ◌≢◌, ℕ, inl, inr, List, Option, Some, None, Result, Ok, Err, OnErr, OnOk, refl, sym, ap, subst, ◌∙◌}
use Rattle.wire.specs.declared.message.Message.{Message}
use Rattle.request_record.specs.declared.requests.Asked.{Asked}
use Rattle.request_record.specs.Asking.{after_message, after_tick}
use Rattle.request_record.specs.Follow.{Follows, IsSaid, Nothing, Said}
use Rattle.request_record.specs.Record.{RequestsState, asked_all}
use Rattle.request_record.proofs.FollowLaws.{follows_asks, follows_message, follows_on, follows_same, follows_tick}
use Rattle.download_segments.specs.declared.piece.Piece.{Piece}
use Rattle.download_core.specs.Calls.{GivesUp}
use Rattle.download_core.specs.Moves.{Advances, StopsAt, TakesPiece, TicksOn}
use Rattle.download_core.specs.Sending.{Takes}
use Rattle.download_core.specs.State.{DownloadState}
use Rattle.download_core.specs.declared.status.DownloadStatus.{DownloadStatus}
use Rattle.download_core.specs.declared.status.DownloadStatus.TheVariants.{Running, Done, NotEnoughShares, Inconsistent, Failed}

-- a record goes on, and more is asked then
asks_follow : (New : Said) (old mid new : RequestsState) (asks : List (ℕ × Asked)) → Follows New old mid → new ≡ asked_all asks mid → Follows New old new
asks_follow New old mid new asks goes is = subst (Follows New old) (sym is) (follows_on New old mid (asked_all asks mid) goes (follows_asks asks mid))

-- the same record, but for what is still to be sent
same_follows : (old new : RequestsState) → new ≡ record old { outgoing = new.outgoing } → Follows Nothing old new
same_follows old new is = follows_same Nothing old new (ap (λ (r : RequestsState). r.session) is) (ap (λ (r : RequestsState). r.entries) is)

pub advances_follow : (from now : ℕ) (m : Message) (old new : DownloadState) → Advances from m now old new → Follows (IsSaid from m old.requests.session) old.requests new.requests
advances_follow from now m old new goes =
    asks_follow (IsSaid from m old.requests.session) old.requests (after_message from m now old.requests) new.requests goes.asks (follows_message from now m old.requests) goes.requests

pub ticks_follow : (now : ℕ) (old new : DownloadState) → TicksOn now old new → Follows Nothing old.requests new.requests
ticks_follow now old new goes = asks_follow Nothing old.requests (after_tick now old.requests) new.requests goes.asks (follows_tick now old.requests) goes.requests

pub stops_follow : (now : ℕ) (old new : DownloadState) → StopsAt now old new → Follows Nothing old.requests new.requests
stops_follow now old new stops = elim stops.requests [
  | inl same ↦ same_follows old.requests new.requests (subst (λ (r : RequestsState). r ≡ record old.requests { outgoing = r.outgoing }) (sym same) refl)
  | inr on ↦ asks_follow Nothing old.requests (after_tick now old.requests) new.requests on.0 (follows_tick now old.requests) on.1
]

pub ticked_follow : {X E : Type 0} (r : Result X E) (now : ℕ) (old new : DownloadState) → OnOk r (TicksOn now old new) → OnErr r (StopsAt now old new) → Follows Nothing old.requests new.requests
ticked_follow (Ok x) now old new ticks stops = ticks_follow now old new ticks
ticked_follow (Err e) now old new ticks stops = stops_follow now old new stops

pub takes_follow : (old new : DownloadState) (taken : Option (ℕ × Message)) → Takes old taken new → Follows Nothing old.requests new.requests
takes_follow old new None takes =
    same_follows old.requests new.requests (subst (λ (d : DownloadState). d.requests ≡ record old.requests { outgoing = d.requests.outgoing }) (sym takes.1) refl)
takes_follow old new (Some f) takes =
    same_follows old.requests new.requests (subst (λ (d : DownloadState). d.requests ≡ record old.requests { outgoing = d.requests.outgoing }) (sym takes.3) refl)

pub hands_follow : (old new : DownloadState) (piece : Option Piece) → TakesPiece old piece new → Follows Nothing old.requests new.requests
hands_follow old new None takes =
    same_follows old.requests new.requests (subst (λ (d : DownloadState). d.requests ≡ record old.requests { outgoing = d.requests.outgoing }) (sym takes.1) refl)
hands_follow old new (Some p) takes =
    same_follows old.requests new.requests (subst (λ (d : DownloadState). d.requests ≡ record old.requests { outgoing = d.requests.outgoing }) (sym takes.1) refl)

-- ---- where there is no memory

-- a tick that finds none does nothing, or the download fails
gives_up : (old new : DownloadState) (status : DownloadStatus) → old.status ≡ status → (old.status ≡ Running → new.status ≡ Failed) → (old.status ≢ Running → new ≡ old) → GivesUp old new
gives_up old new Running is failed ended = inr (failed is)
gives_up old new Done is failed ended = inl (ended (λ runs. let e : Done ≡ Running = sym is ∙ runs in absurd cc))
gives_up old new NotEnoughShares is failed ended = inl (ended (λ runs. let e : NotEnoughShares ≡ Running = sym is ∙ runs in absurd cc))
gives_up old new Inconsistent is failed ended = inl (ended (λ runs. let e : Inconsistent ≡ Running = sym is ∙ runs in absurd cc))
gives_up old new Failed is failed ended = inl (ended (λ runs. let e : Failed ≡ Running = sym is ∙ runs in absurd cc))

pub stops_give_up : (now : ℕ) (old new : DownloadState) → StopsAt now old new → GivesUp old new
stops_give_up now old new stops = gives_up old new old.status refl stops.failed stops.ended
