-- What holds of each upload, as it goes on.
use Rattle.std.proofs.Common.{◌≡◌, ◌≢◌, ℕ, zero, suc, ◌<◌, ◌≤◌, ◌⊎◌, inl, inr, Bool, true, false, cond, List, [], ◌∷◌, ◌++◌, Option, Some, None, Result, Ok, Err, length, map, max, filter, eqb, refl, sym, ap, subst, ◌∙◌, arith, true≢false}
use Rattle.std.specs.Prelude.{slice_get}
use Rattle.std.specs.Result.{OnErr, OnOk}
use Rattle.std.specs.List.{AllByRecursion, IsDistinct}
use Rattle.std.proofs.lemmas.Bool.{eq-eqb}
use Rattle.lemmas.proofs.Results.{on_ok}
use Rattle.wire.specs.declared.message.Message.{Message}
use Rattle.request_record.specs.declared.requests.Asked.{Asked}
use Rattle.request_record.specs.declared.requests.Asked.TheVariants.{Holdings, Allocation, Writing, Closing, Reading, Aborting}
use Rattle.request_record.specs.declared.requests.Request.{Request}
use Rattle.request_record.specs.Record.{IsRecord, RequestsState, counts_at}
use Rattle.request_record.specs.Asking.{AreApart, AsksOnce, after_message, after_tick, begun, lost_by_tick, one_sent}
use Rattle.upload_core.specs.declared.status.ServerInfo.{ServerInfo}
use Rattle.upload_core.specs.declared.status.UploadStatus.{UploadStatus}
use Rattle.upload_core.specs.declared.status.UploadStatus.TheVariants.{Running, Failed}
use Rattle.upload_core.specs.declared.pieces.PieceFault.{PieceFault}
use Rattle.upload_core.specs.declared.pieces.PieceFault.TheVariants.{OutOfMemory}
use Rattle.upload_core.specs.State.{Goal, UploadState, with_record}
use Rattle.upload_core.specs.Right.{IsRight}
use Rattle.upload_core.specs.Moves.{Advances, AdvancesAt, Begins, FailsAt, GoesOn, Stops, StopsAt, TicksOn, TicksWith, after_heard, at_once, ends, followed_all, followed_at, heard_at, initial, later, positions, waits}
use Rattle.upload_core.specs.Course.{CanGoOn, IsCourse, IsInside, IsKept, IsRound, Stands, asked_servers, is_holdings}
use Rattle.upload_core.specs.Trails.{AreFailed, AreFollowed, rank_of, reach_of, share_of}
use Rattle.upload_core.proofs.Followed.{failed_message, failed_placed, followed_message, followed_placed, inside_at}
use Rattle.upload_core.proofs.Ends.{failed_tick, followed_tick, lost_are}
use Rattle.upload_core.proofs.Answering.{heard_after, heard_counts, unheard_after}
use Rattle.upload_core.proofs.Goes.{failed_begun, followed_begun}
use Rattle.upload_core.proofs.Stands.{ended_stands, goes_stand, is_running, same_entries, stands_failed, stands_sent, waits_stands}
use Rattle.upload_core.proofs.Counts.{message_settled, tick_settled}
use Rattle.upload_core.proofs.Placings.{round_message, round_placed, round_tick}
use Rattle.request_record.proofs.RecordLaws.{count_ticked}
use Rattle.upload_core.specs.Rounds.{IsSettled}

-- ---- nothing is asked twice

apart_of : (g : Goal) (a b : Asked) → IsInside g a → (a ≡ b → ⊥) → AreApart a b
apart_of g Holdings b i other = other
apart_of g (Allocation share len) b i other = other
apart_of g (Writing share offset len) b i other = other
apart_of g (Closing share) b i other = other
apart_of g (Reading share offset len) b i other = absurd i
apart_of g (Aborting share) b i other = other

no_share : (g : Goal) (a : Asked) → IsInside g a → share_of a ≡ None → is_holdings a ≡ true
no_share g Holdings i e = refl
no_share g (Allocation share len) i e = absurd cc
no_share g (Writing share offset len) i e = absurd cc
no_share g (Closing share) i e = absurd cc
no_share g (Reading share offset len) i e = absurd i
no_share g (Aborting share) i e = absurd cc

-- an Ask's server is among those that were asked
asked_there : (es : List Request) (s : ℕ) (i : ℕ) (b : Request) → AllByRecursion (λ (y : ℕ). eqb s y ≡ false) (asked_servers es) → slice_get es i ≡ Some b → is_holdings b.asked ≡ true → eqb s b.server ≡ false
asked_there [] s i b all e h = absurd cc
asked_there (q ∷ qs) s zero b all e h =
    let is : q ≡ b = cc in
    subst (λ (x : Request). eqb s x.server ≡ false) is (by (is_holdings q.asked) (ap (λ (x : Request). is_holdings x.asked) is ∙ h) all)
  where
    by : (t : Bool) → t ≡ true → AllByRecursion (λ (y : ℕ). eqb s y ≡ false) (map (λ (r : Request). r.server) (cond t (q ∷ filter (λ (r : Request). is_holdings r.asked) qs) (filter (λ (r : Request). is_holdings r.asked) qs))) → eqb s q.server ≡ false
    by true k a = a.0
    by false k a = absurd (true≢false (sym k))
asked_there (q ∷ qs) s (suc i) b all e h = asked_there qs s i b (by (is_holdings q.asked) all) e h
  where
    by : (t : Bool) → AllByRecursion (λ (y : ℕ). eqb s y ≡ false) (map (λ (r : Request). r.server) (cond t (q ∷ filter (λ (r : Request). is_holdings r.asked) qs) (filter (λ (r : Request). is_holdings r.asked) qs))) → AllByRecursion (λ (y : ℕ). eqb s y ≡ false) (asked_servers qs)
    by true a = a.1
    by false a = a

asks_apart : (es : List Request) → IsDistinct eqb (asked_servers es) → (i j : ℕ) (a b : Request) → i < j → slice_get es i ≡ Some a → slice_get es j ≡ Some b → is_holdings a.asked ≡ true → is_holdings b.asked ≡ true → a.server ≡ b.server → ⊥
unfolding IsDistinct
asks_apart [] d i j a b lt e f h k same = absurd cc
asks_apart (q ∷ qs) d i zero a b lt e f h k same = absurd (omega (arith, lt))
asks_apart (q ∷ qs) d zero (suc j) a b lt e f h k same =
    let is : q ≡ a = cc in
    true≢false (sym (eq-eqb q.server b.server (ap (λ (x : Request). x.server) is ∙ same)) ∙ asked_there qs q.server j b (by (is_holdings q.asked) (ap (λ (x : Request). is_holdings x.asked) is ∙ h) d) f k)
  where
    by : (t : Bool) → t ≡ true → IsDistinct eqb (map (λ (r : Request). r.server) (cond t (q ∷ filter (λ (r : Request). is_holdings r.asked) qs) (filter (λ (r : Request). is_holdings r.asked) qs))) → AllByRecursion (λ (y : ℕ). eqb q.server y ≡ false) (asked_servers qs)
    by true k x = x.0
    by false k x = absurd (true≢false (sym k))
asks_apart (q ∷ qs) d (suc i) (suc j) a b lt e f h k same = asks_apart qs (by (is_holdings q.asked) d) i j a b (omega (arith, lt)) e f h k same
  where
    by : (t : Bool) → IsDistinct eqb (map (λ (r : Request). r.server) (cond t (q ∷ filter (λ (r : Request). is_holdings r.asked) qs) (filter (λ (r : Request). is_holdings r.asked) qs))) → IsDistinct eqb (asked_servers qs)
    by true x = x.1
    by false x = x

-- a request reaches as far as it begins, or further
rank_reach : (g : Goal) (a : Asked) → IsInside g a → rank_of g a ≤ reach_of g a
rank_reach g Holdings i = omega arith
rank_reach g (Allocation share len) i = omega arith
rank_reach g (Writing share offset len) i = omega (arith, i.2)
rank_reach g (Closing share) i = omega arith
rank_reach g (Reading share offset len) i = absurd i
rank_reach g (Aborting share) i = omega arith

once_of : (u : UploadState) → IsCourse u → AsksOnce u.requests.entries
once_of u c i j a b lt first second servers = apart_of u.goal a.asked b.asked inside other
  where
    inside : IsInside u.goal a.asked
    inside = inside_at u.goal u.requests.entries i a c.inside first

    by : (o : Option ℕ) → share_of a.asked ≡ o → a.asked ≡ b.asked → ⊥
    by None e same =
        let h : is_holdings a.asked ≡ true = no_share u.goal a.asked inside e in
        asks_apart u.requests.entries c.distinct i j a b lt first second h (ap is_holdings (sym same) ∙ h) servers
    by (Some share) e same =
        let before = c.trails i j a b (a.server, share) lt first second (refl, e) (sym servers, ap share_of (sym same) ∙ e) in
        absurd (omega (arith, before.further, ap (rank_of u.goal) same, rank_reach u.goal a.asked inside))

    other : a.asked ≡ b.asked → ⊥
    other = by (share_of a.asked) refl

-- ---- what an upload goes on from

-- it goes on from a record that it can go on from
can_go : (u : UploadState) (r : RequestsState) (new : UploadState) → GoesOn u r new → IsCourse new → CanGoOn (with_record u r) → CanGoOn new
can_go u r new g course can = elim g [
  | waits unsettled e ↦ subst CanGoOn (sym e) can
  | positions p settled to placing some e ↦ (
      let c = subst IsCourse e course in
      subst CanGoOn (sym e) (record {
        followed = followed_placed u.goal u.goal.share_length (p.m3 ++ p.leftovers) r can.followed;
        failed = failed_placed u.goal u.goal.share_length (p.m3 ++ p.leftovers) r can.failed;
        rounds = inr (round_placed u r p settled placing c.distinct c.of_told);
      }))
  | ends status settled over so e ↦ subst CanGoOn (sym e) (record { followed = can.followed; failed = can.failed; rounds = can.rounds })
]

-- how it stands, and that it can go on
record Moves (new : UploadState) : Type 0 where
  pub stands : Stands new
  pub going : new.status ≡ Running → CanGoOn new

goes_moves : (u : UploadState) (r : RequestsState) (new : UploadState) → u.status ≡ Running → IsCourse new → CanGoOn (with_record u r) → GoesOn u r new → Moves new
goes_moves u r new running course can g = record { stands = goes_stand u r new running course can g; going = λ is. can_go u r new g course can }

-- an upload that ended: only its record goes on
over_moves : (old : UploadState) (r : RequestsState) (new : UploadState) → old.status ≢ Running → new ≡ with_record old r → (IsSettled old.requests.entries → r.entries ≡ old.requests.entries) → Stands old → Moves new
over_moves old r new over e same stands = subst Moves (sym e) (record { stands = ended_stands old r over same stands; going = λ is. absurd (over is) })

begins_moves : (goal : Goal) (happy : ℕ) (servers : List ServerInfo) (session now : ℕ) (u : UploadState) → Begins goal happy servers session now u → IsCourse u → Moves u
begins_moves goal happy servers session now u b course = goes_moves (initial goal happy u.servers session now) (begun u.servers session now) u refl course (record { followed = followed_begun goal session now u.servers; failed = failed_begun goal session now u.servers; rounds = inl refl }) b.goes

module _ (from : ℕ) (m : Message) (now : ℕ) (old new : UploadState) (stands : Stands old) (kept : IsKept old) (course : IsCourse new) where
  message_can : (position : ℕ) → counts_at from m old.requests ≡ Some position → CanGoOn old → CanGoOn (with_record old (followed_at old.goal position (after_message from m now old.requests)))
  message_can position e can = record {
    followed = followed_message old.goal from m now old.requests position e kept.course.inside kept.course.some kept.course.long can.followed can.failed;
    failed = failed_message old.goal from m now old.requests position e kept.course.inside kept.course.some kept.course.long can.followed can.failed;
    rounds = elim can.rounds [
      | inl first ↦ inl first
      | inr k ↦ inr (round_message old.goal old.round from m now old.requests position e kept.course.inside k)
    ];
  }

  message_moves : Advances from m now old new → Moves new
  message_moves a = elim (is_running old.status) [
    | inl running ↦ by running (heard_at from m old.requests) refl (a.running running)
    | inr over ↦ over_moves old (after_heard from m now old.requests) new over (a.ended over) (message_settled from m now old.requests) stands
  ]
    where
      by : old.status ≡ Running → (o : Option ℕ) → heard_at from m old.requests ≡ o → AdvancesAt o (after_heard from m now old.requests) old new → Moves new
      by running None e is =
          let can = kept.going running in
          let same : (after_heard from m now old.requests).entries ≡ old.requests.entries = ap (λ (r : RequestsState). r.entries) (unheard_after from m now old.requests e) in
          subst Moves (sym is) (record {
            stands = same_entries old (after_heard from m now old.requests) same stands;
            going = λ runs. record {
              followed = subst (AreFollowed old.goal) (sym same) can.followed;
              failed = subst (AreFailed old.goal) (sym same) can.failed;
              rounds = subst (λ (es : List Request). (old.round ≡ 0) ⊎ IsRound old.goal old.round es) (sym same) can.rounds;
            };
          })
      by running (Some position) e goes =
          let after : RequestsState = after_message from m now old.requests in
          let is : after_heard from m now old.requests ≡ after = heard_after from m now old.requests position e in
          goes_moves old (followed_at old.goal position after) new running course (message_can position (heard_counts from m old.requests position e).counts (kept.going running))
          (subst (λ (r : RequestsState). GoesOn old (followed_at old.goal position r) new) is goes)

module _ (now : ℕ) (old new : UploadState) (stands : Stands old) (kept : IsKept old) (course : IsCourse new) where
  abbrev after : RequestsState
  after = after_tick now old.requests

  tick_can : CanGoOn old → CanGoOn (with_record old (followed_all old.goal (lost_by_tick now old.requests) after))
  tick_can can = record {
    followed = followed_tick old.goal now old.requests kept.course.inside (lost_by_tick now old.requests) (lost_are now old.requests) can.followed;
    failed = failed_tick old.goal now old.requests kept.course.inside (lost_by_tick now old.requests) (lost_are now old.requests) can.failed;
    rounds = elim can.rounds [
      | inl first ↦ inl first
      | inr k ↦ inr (round_tick old.goal old.round now old.requests kept.course.inside k)
    ];
  }

  tick_moves : TicksOn now old new → Moves new
  tick_moves a = elim (is_running old.status) [
    | inl running ↦ by running (lost_by_tick now old.requests) refl (a.running running) (tick_can (kept.going running))
    | inr over ↦ over_moves old after new over (a.ended over) (tick_settled now old.requests) stands
  ]
    where
      by : old.status ≡ Running → (lost : List ℕ) → lost_by_tick now old.requests ≡ lost → TicksWith lost after old new → CanGoOn (with_record old (followed_all old.goal lost after)) → Moves new
      by running [] e is can =
          let none : length (lost_by_tick now old.requests) ≡ 0 = ap length e in
          subst Moves (sym is) (record {
            stands = waits_stands old after running (omega (arith, none, stands.works running, count_ticked (max old.requests.clock now) 0 old.requests.entries));
            going = λ runs. can;
          })
      by running (p ∷ ps) e goes can = goes_moves old _ new running course can goes

-- ---- the calls

kept_of : (u : UploadState) → Stands u → IsCourse u → (u.status ≡ Running → CanGoOn u) → IsKept u
kept_of u stands course going = record { course = course; stands = stands; going = going }

-- an upload is right by what is kept of it, and by its record
pub right_of : (u : UploadState) → IsKept u → IsRecord u.requests → IsRight u
right_of u kept recorded = record {
  works = kept.stands.works;
  once = once_of u kept.course;
  recorded = recorded;
  settled = kept.stands.settled;
  over = kept.stands.over;
  hopeless = kept.stands.hopeless;
}

pub course_status : (u : UploadState) (status : UploadStatus) → IsCourse u → IsCourse (record u { status = status })
course_status u status c = record { few = c.few; some = c.some; long = c.long; distinct = c.distinct; inside = c.inside; of_told = c.of_told; waited = c.waited; trails = c.trails; begun = c.begun }

pub begins_kept : (goal : Goal) (happy : ℕ) (servers : List ServerInfo) (session now : ℕ) (u : UploadState) → Begins goal happy servers session now u → IsCourse u → IsKept u
begins_kept goal happy servers session now u b c = let moves = begins_moves goal happy servers session now u b c in kept_of u moves.stands c moves.going

pub failed_kept : (u : UploadState) (fault : PieceFault) → IsCourse u → IsKept (record u { status = Failed fault })
failed_kept u fault c = kept_of (record u { status = Failed fault }) (stands_failed u fault) (course_status u (Failed fault) c) (λ is. absurd cc)

pub sent_kept : (u : UploadState) → IsKept u → IsKept (with_record u (one_sent u.requests))
sent_kept u kept =
    let c = kept.course in
    kept_of (with_record u (one_sent u.requests)) (stands_sent u kept.stands) (record { few = c.few; some = c.some; long = c.long; distinct = c.distinct; inside = c.inside; of_told = c.of_told; waited = c.waited; trails = c.trails; begun = c.begun }) (λ is. let can = kept.going is in record { followed = can.followed; failed = can.failed; rounds = can.rounds })

-- a step that went on, or found no memory
module _ {X E : Type 0} (mid new : UploadState) (c : IsCourse new) where
  step_kept : (r : Result X E) → OnOk r (IsCourse mid → Moves mid) → OnOk r (new ≡ mid) → OnErr r (new ≡ record mid { status = Failed OutOfMemory }) → IsKept new
  step_kept (Ok x) f e n =
      let moves : Moves new = subst Moves (sym e) (f (subst IsCourse e c)) in
      kept_of new moves.stands c moves.going
  step_kept (Err x) f e n = kept_of new (subst Stands (sym n) (stands_failed mid OutOfMemory)) c (λ is. absurd (failed_runs OutOfMemory (sym (ap (λ (u : UploadState). u.status) n) ∙ is)))
    where
      failed_runs : (fault : PieceFault) → Failed fault ≡ Running → ⊥
      failed_runs fault e = cc

  pub step_goal : (r : Result X E) → OnOk r (new ≡ mid) → OnErr r (new ≡ record mid { status = Failed OutOfMemory }) → new.goal ≡ mid.goal
  step_goal (Ok x) e n = ap (λ (u : UploadState). u.goal) e
  step_goal (Err x) e n = ap (λ (u : UploadState). u.goal) n

  pub message_kept : (r : Result X E) (from : ℕ) (m : Message) (now : ℕ) (old : UploadState) → OnOk r (Advances from m now old mid) → OnOk r (new ≡ mid) → OnErr r (new ≡ record mid { status = Failed OutOfMemory }) → IsKept old → IsKept new
  message_kept r from m now old a e n kept = step_kept r (on_ok r (Advances from m now old mid) (IsCourse mid → Moves mid) (λ moves course. message_moves from m now old mid kept.stands kept course moves) a) e n

  pub tick_kept : (r : Result X E) (now : ℕ) (old : UploadState) → OnOk r (TicksOn now old mid) → OnOk r (new ≡ mid) → OnErr r (new ≡ record mid { status = Failed OutOfMemory }) → IsKept old → IsKept new
  tick_kept r now old a e n kept = step_kept r (on_ok r (TicksOn now old mid) (IsCourse mid → Moves mid) (λ moves course. tick_moves now old mid kept.stands kept course moves) a) e n

-- ---- what is left of a step that found no memory

pub stops_failed : {X E : Type 0} (r : Result X E) (q : RequestsState) (old mid new : UploadState) → OnErr r (Stops q old mid) → OnErr r (new ≡ record mid { status = Failed OutOfMemory }) → OnErr r (Stops q old new)
stops_failed (Ok x) q old mid new stops e = tt
stops_failed (Err x) q old mid new stops e =
    subst (Stops q old) (sym e) (record { goal = stops.goal; happy = stops.happy; servers = stops.servers; asks = stops.asks; requests = stops.requests })

pub stops_at : {X E : Type 0} (r : Result X E) (now : ℕ) (old mid new : UploadState) → old.status ≡ Running → OnErr r ((mid ≡ old) ⊎ Stops (after_tick now old.requests) old mid)
    → OnErr r (new ≡ record mid { status = Failed OutOfMemory }) → OnErr r (StopsAt now old new)
stops_at (Ok x) now old mid new runs why e = tt
stops_at {X} (Err x) now old mid new runs why e = record { running = λ _. fails why; ended = λ over. absurd (over runs) }
  where
    fails : (mid ≡ old) ⊎ Stops (after_tick now old.requests) old mid → FailsAt now old new
    fails (inl same) = at_once (e ∙ ap (λ (u : UploadState). record u { status = Failed OutOfMemory }) same)
    fails (inr stops) = later (ap (λ (u : UploadState). u.status) e) (stops_failed {X = X} (Err x) (after_tick now old.requests) old mid new stops e)

-- ---- a second of one that ended

module _ {X E : Type 0} (now : ℕ) (old new : UploadState) (over : old.status ≢ Running) where
  pub noted_kept : (r : Result X E) → OnOk r (new ≡ with_record old (after_tick now old.requests)) → OnErr r (new ≡ old) → IsCourse new → IsKept old → IsKept new
  noted_kept (Ok x) e n course kept = (let moves = over_moves old (after_tick now old.requests) new over e (tick_settled now old.requests) kept.stands in kept_of new moves.stands course moves.going)
  noted_kept (Err x) e n course kept = subst IsKept (sym n) kept

  pub noted_ok : (r : Result X E) → OnOk r (new ≡ with_record old (after_tick now old.requests)) → OnOk r (TicksOn now old new)
  noted_ok r e = on_ok r _ _ (λ is. record { running = λ runs. absurd (over runs); ended = λ _. is }) e

  pub noted_stops : (r : Result X E) → OnErr r (new ≡ old) → OnErr r (StopsAt now old new)
  noted_stops (Ok x) n = tt
  noted_stops (Err x) n = record { running = λ runs. absurd (over runs); ended = λ _. n }

  pub noted_goal : (r : Result X E) → OnOk r (new ≡ with_record old (after_tick now old.requests)) → OnErr r (new ≡ old) → new.goal ≡ old.goal
  noted_goal (Ok x) e n = ap (λ (u : UploadState). u.goal) e
  noted_goal (Err x) e n = ap (λ (u : UploadState). u.goal) n
