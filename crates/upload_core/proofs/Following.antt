-- Whatever a call does, the upload's record goes on, and what it is for stays.
use Rattle.std.proofs.Common.{◌≡◌, ℕ, List, [], ◌∷◌, Option, Some, None, Result, Ok, Err, refl, sym, ap, subst, inl, inr, ◌⊎◌}
use Rattle.std.specs.Prelude.{slice_get}
use Rattle.std.specs.Result.{OnErr, OnOk}
use Rattle.wire.specs.declared.message.Message.{Message}
use Rattle.request_record.specs.declared.requests.Asked.{Asked}
use Rattle.request_record.specs.Asking.{after_message, after_tick, lost_by_tick}
use Rattle.request_record.specs.Follow.{Follows, IsSaid, Nothing, Said}
use Rattle.request_record.specs.Record.{RequestsState, asked_all, at}
use Rattle.request_record.proofs.FollowLaws.{follows_asks, follows_itself, follows_message, follows_on, follows_same, follows_tick}
use Rattle.upload_core.specs.declared.pieces.PieceFault.{PieceFault}
use Rattle.upload_core.specs.declared.pieces.PieceFault.TheVariants.{OutOfMemory}
use Rattle.upload_core.specs.declared.status.UploadStatus.TheVariants.{Failed}
use Rattle.upload_core.specs.State.{Goal, UploadState, with_record}
use Rattle.upload_core.specs.Moves.{Advances, AdvancesAt, FailsAt, GoesOn, Stops, StopsAt, TicksOn, TicksWith, after_heard, at_once, ends, follow_ups_of, followed_all, followed_at, heard, heard_at, later, positions, waits}
use Rattle.upload_core.specs.Rounds.{transfers_of}
use Rattle.upload_core.specs.Sending.{Takes, Uploading, ceases, nothing, sends}
use Rattle.upload_core.proofs.Stands.{is_running}

-- The record of an upload goes on, of which these answers may be new, and what it is for stays.
pub record Continues (New : Said) (old new : UploadState) : Type 0 where
  pub goal : new.goal ≡ old.goal
  pub happy : new.happy ≡ old.happy
  pub follows : Follows New old.requests new.requests

-- more is asked
asks_more : (New : Said) (old r : RequestsState) (asks : List (ℕ × Asked)) → Follows New old r → Follows New old (asked_all asks r)
asks_more New old r asks f = follows_on New old r (asked_all asks r) f (follows_asks asks r)

same_continues : (New : Said) (old new : UploadState) → new ≡ old → Continues New old new
same_continues New old new is = subst (Continues New old) (sym is) (record { goal = refl; happy = refl; follows = follows_itself New old.requests })

recorded : (New : Said) (old new : UploadState) (r : RequestsState) → new ≡ with_record old r → Follows New old.requests r → Continues New old new
recorded New old new r is f = subst (Continues New old) (sym is) (record { goal = refl; happy = refl; follows = f })

-- the requests are the same
requests_continue : (New : Said) (old new : UploadState) → new.goal ≡ old.goal → new.happy ≡ old.happy → new.requests.session ≡ old.requests.session → new.requests.entries ≡ old.requests.entries → Continues New old new
requests_continue New old new goal happy session entries = record { goal = goal; happy = happy; follows = follows_same New old.requests new.requests session entries }

pub placed : (New : Said) (old new : UploadState) (r : RequestsState) → Follows New old.requests r → GoesOn old r new → Continues New old new
placed New old new r f (waits unsettled is) = recorded New old new r is f
placed New old new r f (positions p settled position placing some is) =
    subst (Continues New old) (sym is) (record { goal = refl; happy = refl; follows = asks_more New old.requests r (transfers_of old.goal p) f })
placed New old new r f (ends status settled over so is) = subst (Continues New old) (sym is) (record { goal = refl; happy = refl; follows = f })

answered : (New : Said) (old new : UploadState) (o : Option ℕ) (r : RequestsState) → Follows New old.requests r → AdvancesAt o r old new → Continues New old new
answered New old new None r f a = recorded New old new r a f
answered New old new (Some position) r f a =
    placed New old new (followed_at old.goal position r) (asks_more New old.requests r (follow_ups_of old.goal r.entries (slice_get r.entries position)) f) a

followed_continue : (New : Said) (g : Goal) (positions : List ℕ) (old r : RequestsState) → Follows New old r → Follows New old (followed_all g positions r)
followed_continue New g [] old r f = f
followed_continue New g (p ∷ ps) old r f = followed_continue New g ps old (followed_at g p r) (asks_more New old r (follow_ups_of g r.entries (slice_get r.entries p)) f)

lost : (New : Said) (old new : UploadState) (positions : List ℕ) (r : RequestsState) → Follows New old.requests r → TicksWith positions r old new → Continues New old new
lost New old new [] r f a = recorded New old new r a f
lost New old new (q ∷ qs) r f a = placed New old new (followed_all old.goal (q ∷ qs) r) (followed_continue New old.goal (q ∷ qs) old.requests r f) a

-- a step that found no memory
pub stops_continue : (New : Said) (r : RequestsState) (old new : UploadState) → Follows New old.requests r → Stops r old new → Continues New old new
stops_continue New r old new f s = record {
  goal = s.goal;
  happy = s.happy;
  follows = subst (Follows New old.requests) (sym s.requests) (asks_more New old.requests r s.asks f);
}

-- a step after which the upload fails where it found no memory
pub failed_continue : {X E : Type 0} (New : Said) (r : Result X E) (old mid new : UploadState) → Continues New old mid → OnOk r (new ≡ mid) → OnErr r (new ≡ record mid { status = Failed OutOfMemory }) → Continues New old new
failed_continue New (Ok x) old mid new g e n = subst (Continues New old) (sym e) g
failed_continue New (Err x) old mid new g e n = subst (Continues New old) (sym n) (record { goal = g.goal; happy = g.happy; follows = g.follows })

-- ---- a message

module _ (from : ℕ) (m : Message) (now : ℕ) (old new : UploadState) where
  heard_follows : (o : Option ℕ) → Follows (IsSaid from m old.requests.session) old.requests (heard o from m now old.requests)
  heard_follows None = follows_same (IsSaid from m old.requests.session) old.requests (at now old.requests) refl refl
  heard_follows (Some position) = follows_message from now m old.requests

  pub advances_continue : Advances from m now old new → Continues (IsSaid from m old.requests.session) old new
  advances_continue a = elim (is_running old.status) [
    | inl running ↦ answered (IsSaid from m old.requests.session) old new (heard_at from m old.requests) (after_heard from m now old.requests) (heard_follows (heard_at from m old.requests)) (a.running running)
    | inr over ↦ recorded (IsSaid from m old.requests.session) old new (after_heard from m now old.requests) (a.ended over) (heard_follows (heard_at from m old.requests))
  ]

  -- whatever came of the call
  pub hears_continue : {X E : Type 0} (r : Result X E) → OnOk r (Advances from m now old new) → OnErr r (Stops (after_message from m now old.requests) old new) → Continues (IsSaid from m old.requests.session) old new
  hears_continue (Ok x) a s = advances_continue a
  hears_continue (Err x) a s = stops_continue (IsSaid from m old.requests.session) (after_message from m now old.requests) old new (follows_message from now m old.requests) s

-- ---- a tick

module _ (now : ℕ) (old new : UploadState) where
  pub ticks_continue : TicksOn now old new → Continues Nothing old new
  ticks_continue a = elim (is_running old.status) [
    | inl running ↦ lost Nothing old new (lost_by_tick now old.requests) (after_tick now old.requests) (follows_tick now old.requests) (a.running running)
    | inr over ↦ recorded Nothing old new (after_tick now old.requests) (a.ended over) (follows_tick now old.requests)
  ]

  fails_continue : FailsAt now old new → Continues Nothing old new
  fails_continue (at_once is) = subst (Continues Nothing old) (sym is) (record { goal = refl; happy = refl; follows = follows_itself Nothing old.requests })
  fails_continue (later failed s) = stops_continue Nothing (after_tick now old.requests) old new (follows_tick now old.requests) s

  pub stops_at_continue : StopsAt now old new → Continues Nothing old new
  stops_at_continue s = elim (is_running old.status) [
    | inl running ↦ fails_continue (s.running running)
    | inr over ↦ same_continues Nothing old new (s.ended over)
  ]

  -- whatever came of the call
  pub ticked_continue : {X E : Type 0} (r : Result X E) → OnOk r (TicksOn now old new) → OnErr r (StopsAt now old new) → Continues Nothing old new
  ticked_continue (Ok x) a s = ticks_continue a
  ticked_continue (Err x) a s = stops_at_continue s

  -- a second while it runs
  pub passes_continue : {X E : Type 0} (r : Result X E) → OnOk r (TicksOn now old new) → OnErr r ((new ≡ old) ⊎ Stops (after_tick now old.requests) old new) → Continues Nothing old new
  passes_continue (Ok x) a s = ticks_continue a
  passes_continue (Err x) a (inl same) = same_continues Nothing old new same
  passes_continue (Err x) a (inr s) = stops_continue Nothing (after_tick now old.requests) old new (follows_tick now old.requests) s

  -- a second once it ended
  pub notes_continue : {X E : Type 0} (r : Result X E) → OnOk r (new ≡ with_record old (after_tick now old.requests)) → OnErr r (new ≡ old) → Continues Nothing old new
  notes_continue (Ok x) e n = recorded Nothing old new (after_tick now old.requests) e (follows_tick now old.requests)
  notes_continue (Err x) e n = same_continues Nothing old new n

-- ---- what is sent

pub takes_continue : {P : Type 0} (gives : P → ℕ → ℕ → List ℕ → P → Type 0) (fails : P → ℕ → ℕ → ℕ → PieceFault → P → Type 0) (old new : Uploading P) (taken : Option (ℕ × Message)) → Takes gives fails old taken new
    → Continues Nothing old.course new.course
takes_continue gives fails old new taken (nothing first none is) = same_continues Nothing old.course new.course (ap (λ (x : Uploading _). x.course) is)
takes_continue gives fails old new taken (ceases position server asked fault running first there faults none is) =
    requests_continue Nothing old.course new.course (ap (λ (x : UploadState). x.goal) is) (ap (λ (x : UploadState). x.happy) is) (ap (λ (x : UploadState). x.requests.session) is)
    (ap (λ (x : UploadState). x.requests.entries) is)
takes_continue gives fails old new taken (sends position server asked body first there tells some is) =
    requests_continue Nothing old.course new.course (ap (λ (x : UploadState). x.goal) is) (ap (λ (x : UploadState). x.happy) is) (ap (λ (x : UploadState). x.requests.session) is)
    (ap (λ (x : UploadState). x.requests.entries) is)
