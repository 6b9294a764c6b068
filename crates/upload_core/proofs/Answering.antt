-- What an answer that counts does to the record, and what is asked then.
use Rattle.std.proofs.Common.{◌≡◌, ◌≢◌, ℕ, ◌-◌, ◌&&◌, ◌||◌, not, Bool, true, false, cond, List, [], ◌∷◌, Option, Some, None, take, refl, sym, ap, subst, ◌∙◌, true≢false}
use Rattle.std.specs.Prelude.{◌==◌, slice_get}
use Rattle.std.proofs.lemmas.Bool.{eqb-true}
use Rattle.lemmas.proofs.Bools.{both}
use Rattle.lemmas.proofs.Options.{chosen}
use Rattle.wire.specs.declared.message.Body.{Body}
use Rattle.wire.specs.declared.message.Message.{Message}
use Rattle.request_record.specs.declared.requests.Asked.{Asked}
use Rattle.request_record.specs.declared.requests.Asked.TheVariants.{Holdings, Allocation, Writing, Closing, Reading, Aborting}
use Rattle.request_record.specs.declared.requests.Outcome.TheVariants.{Answered}
use Rattle.request_record.specs.declared.requests.Request.{Request}
use Rattle.request_record.specs.Record.{RequestsState, asked_all, at, awaits_at, counts_at, fits, is_outstanding, with_outcome}
use Rattle.request_record.specs.Asking.{after_message}
use Rattle.request_record.specs.Written.{IsKeptAt}
use Rattle.request_record.proofs.RecordLaws.{Awaits, counts_is}
use Rattle.upload_core.specs.declared.transfers.Effect.{Effect}
use Rattle.upload_core.specs.declared.status.UploadStatus.TheVariants.{Running}
use Rattle.upload_core.specs.State.{UploadState, with_record}
use Rattle.upload_core.specs.Transfers.{asked_after, effect_of, follow_ups, is_piece_before, waits_before}
use Rattle.upload_core.specs.Moves.{Advances, AdvancesAt, GoesOn, after_heard, asks_of_server, follow_ups_of, followed_at, heard, heard_at, in_turn, is_early, is_early_in}
use Rattle.upload_core.specs.Course.{IsCourse}
use Rattle.upload_core.specs.Trails.{IsPassed}
use Rattle.upload_core.proofs.Records.{Goes, course_goes, goes_refl, waits_was}
use Rattle.upload_core.proofs.Ends.{answered_passed}
use Rattle.upload_core.proofs.Followed.{message_there}
use Rattle.upload_core.proofs.Goes.{message_course, message_goes}
use Rattle.upload_core.proofs.Asks.{follow_begins}
use Rattle.upload_core.proofs.Written.{waiting_kept}

-- an answer comes from the server that was asked
from_at : (from : ℕ) (body : Body) (o : Option Request) (r : Request) → o ≡ Some r → awaits_at from body o ≡ true → r.server ≡ from
from_at from body None r e w = absurd cc
from_at from body (Some q) r e w =
    let same : q ≡ r = cc in
    let t = both (is_outstanding q.outcome && (q.server == from)) (fits q.asked body) w in
    sym (ap (λ (x : Request). x.server) same) ∙ eqb-true q.server from (both (is_outstanding q.outcome) (q.server == from) t.0).1

counts_from : (from : ℕ) (m : Message) (s : RequestsState) (position : ℕ) (r : Request) → counts_at from m s ≡ Some position → slice_get s.entries position ≡ Some r → r.server ≡ from
counts_from from m s position r e there =
    let here = slice_get s.entries (m.number - 1) in
    let t = chosen ((m.session == s.session) && not (m.number == 0) && awaits_at from m.body here) (m.number - 1) position e in
    let last = (both ((m.session == s.session) && not (m.number == 0)) (awaits_at from m.body here) t.0).1 in
    from_at from m.body here r (ap (slice_get s.entries) t.1 ∙ there) last

-- what a message answers, where it counts
pub heard_is : (from : ℕ) (m : Message) (s : RequestsState) (position : ℕ) (r : Request) → counts_at from m s ≡ Some position → slice_get s.entries position ≡ Some r → (b : Bool) → is_early s.entries r.server r.asked ≡ b → heard_at from m s ≡ cond b None (Some position)
heard_is from m s position r counts there b early =
    ap (in_turn s.entries) counts ∙ ap (λ (o : Option Request). cond (is_early_in s.entries o) None (Some position)) there ∙ ap (λ (t : Bool). cond t None (Some position)) early

-- what was heard counts, and no piece before it waits
pub record Heard (from : ℕ) (m : Message) (s : RequestsState) (position : ℕ) : Type 0 where
  pub counts : counts_at from m s ≡ Some position
  pub turn : is_early_in s.entries (slice_get s.entries position) ≡ false

turned : (es : List Request) (p position : ℕ) (b : Bool) → is_early_in es (slice_get es p) ≡ b → cond b None (Some p) ≡ Some position → (p ≡ position) × (is_early_in es (slice_get es position) ≡ false)
turned es p position true e h = absurd cc
turned es p position false e h = let same : p ≡ position = cc in (same, subst (λ (q : ℕ). is_early_in es (slice_get es q) ≡ false) same e)

pub heard_counts : (from : ℕ) (m : Message) (s : RequestsState) (position : ℕ) → heard_at from m s ≡ Some position → Heard from m s position
heard_counts from m s position e = by (counts_at from m s) refl e
  where
    by : (o : Option ℕ) → counts_at from m s ≡ o → in_turn s.entries o ≡ Some position → Heard from m s position
    by None f h = absurd cc
    by (Some p) f h = let t = turned s.entries p position (is_early_in s.entries (slice_get s.entries p)) refl h in record { counts = f ∙ ap Some t.0; turn = t.1 }

-- the record after it
pub heard_after : (from : ℕ) (m : Message) (now : ℕ) (s : RequestsState) (position : ℕ) → heard_at from m s ≡ Some position → after_heard from m now s ≡ after_message from m now s
heard_after from m now s position e = ap (λ (o : Option ℕ). heard o from m now s) e

pub unheard_after : (from : ℕ) (m : Message) (now : ℕ) (s : RequestsState) → heard_at from m s ≡ None → after_heard from m now s ≡ at now s
unheard_after from m now s e = ap (λ (o : Option ℕ). heard o from m now s) e

-- a message that is not heard moves the time alone
pub advances_none : (u : UploadState) (from : ℕ) (m : Message) (now : ℕ) (new : RequestsState) → heard_at from m u.requests ≡ None → new ≡ at now u.requests → Advances from m now u (with_record u new)
advances_none u from m now new none e =
    let is : new ≡ after_heard from m now u.requests = e ∙ sym (unheard_after from m now u.requests none) in
    record {
      running = λ r. subst (λ (o : Option ℕ). AdvancesAt o (after_heard from m now u.requests) u (with_record u new)) (sym none) (ap (with_record u) is);
      ended = λ ne. ap (with_record u) is;
    }

pub time_course : (u : UploadState) (now : ℕ) (new : RequestsState) → new ≡ at now u.requests → IsCourse u → IsCourse (with_record u new)
time_course u now new e c = course_goes u new (subst (Goes u.requests.entries) (sym (ap (λ (r : RequestsState). r.entries) e)) (goes_refl u.requests.entries)) c

-- a piece before another waits no more once one was answered
waits_goes : (server share end : ℕ) (es ns : List Request) → Goes es ns → waits_before es server share end ≡ false → waits_before ns server share end ≡ false
waits_goes server share end [] [] k h = refl
waits_goes server share end [] (n ∷ ns) k h = absurd k
waits_goes server share end (r ∷ rs) [] k h = absurd k
waits_goes server share end (r ∷ rs) (n ∷ ns) k h =
    let t = neither ((r.server == server) && is_piece_before share end r.asked && is_outstanding r.outcome) (waits_before rs server share end) h in
    join ((n.server == server) && is_piece_before share end n.asked && is_outstanding n.outcome) (waits_before ns server share end) (here t.0) (waits_goes server share end rs ns k.1 t.1)
  where
    neither : (a b : Bool) → (a || b) ≡ false → (a ≡ false) × (b ≡ false)
    neither true b e = absurd (true≢false e)
    neither false b e = (refl, e)

    join : (a b : Bool) → a ≡ false → b ≡ false → (a || b) ≡ false
    join true b e f = absurd (true≢false e)
    join false b e f = f

    three : (a b c : Bool) → (a && b && c) ≡ true → (a ≡ true) × (b ≡ true) × (c ≡ true)
    three true true true e = (refl, refl, refl)
    three true true false e = absurd (true≢false (sym e))
    three true false c e = absurd (true≢false (sym e))
    three false b c e = absurd (true≢false (sym e))

    joined : (a b c : Bool) → a ≡ true → b ≡ true → c ≡ true → (a && b && c) ≡ true
    joined true true true e f g = refl
    joined true true false e f g = absurd (true≢false (sym g))
    joined true false c e f g = absurd (true≢false (sym f))
    joined false b c e f g = absurd (true≢false (sym e))

    here : ((r.server == server) && is_piece_before share end r.asked && is_outstanding r.outcome) ≡ false → ((n.server == server) && is_piece_before share end n.asked && is_outstanding n.outcome) ≡ false
    here e = by ((n.server == server) && is_piece_before share end n.asked && is_outstanding n.outcome) refl
      where
        by : (b : Bool) → ((n.server == server) && is_piece_before share end n.asked && is_outstanding n.outcome) ≡ b → ((n.server == server) && is_piece_before share end n.asked && is_outstanding n.outcome) ≡ false
        by false f = f
        by true f =
            let t = three (n.server == server) (is_piece_before share end n.asked) (is_outstanding n.outcome) f in
            let a : (r.server == server) ≡ true = ap (λ (s : ℕ). s == server) (sym k.0.server) ∙ t.0 in
            let b : is_piece_before share end r.asked ≡ true = ap (is_piece_before share end) (sym k.0.asked) ∙ t.1 in
            absurd (true≢false (sym (joined (r.server == server) (is_piece_before share end r.asked) (is_outstanding r.outcome) a b (waits_was r n k.0 t.2)) ∙ e))

early_goes : (es ns : List Request) → Goes es ns → (server : ℕ) (a : Asked) → is_early es server a ≡ false → is_early ns server a ≡ false
early_goes es ns k server (Writing share offset len) h = waits_goes server share offset es ns k h
early_goes es ns k server Holdings h = refl
early_goes es ns k server (Allocation share len) h = refl
early_goes es ns k server (Closing share) h = refl
early_goes es ns k server (Reading share offset len) h = refl
early_goes es ns k server (Aborting share) h = refl

-- what is answered is in memory until then
pub counted_kept : (u : UploadState) (from : ℕ) (m : Message) (position : ℕ) → counts_at from m u.requests ≡ Some position → IsKeptAt u.requests.entries position
counted_kept u from m position counts =
    let a = counts_is from m u.requests position counts in
    waiting_kept u.requests.entries position a.request a.there a.waits

module _ (u : UploadState) (from : ℕ) (m : Message) (now : ℕ) (position : ℕ) (h : Heard from m u.requests position) where
  abbrev a : Awaits u.requests.entries position
  a = counts_is from m u.requests position h.counts

  abbrev after : RequestsState
  after = after_message from m now u.requests

  abbrev answered : Request
  answered = with_outcome a.request (Answered m.body)

  there : slice_get after.entries position ≡ Some answered
  there = message_there u.goal from m now u.requests position h.counts

  from_is : a.request.server ≡ from
  from_is = counts_from from m u.requests position a.request h.counts a.there

  module _ (r : Request) (effect : Effect) (found : slice_get u.requests.entries position ≡ Some r) (does : effect ≡ effect_of u.goal r.asked (Answered m.body)) where
    same : a.request ≡ r
    same = let one : Some a.request ≡ Some r = sym a.there ∙ found in cc

    -- what follows the answer
    pub answer_follows : asks_of_server from (asked_after u.goal after.entries from r.asked effect) ≡ follow_ups_of u.goal after.entries (slice_get after.entries position)
    answer_follows =
        let one : asked_after u.goal after.entries from r.asked effect ≡ follow_ups u.goal after.entries answered =
        ap (λ (e : Effect). asked_after u.goal after.entries from r.asked e) does
        ∙ ap (λ (s : ℕ). asked_after u.goal after.entries s r.asked (effect_of u.goal r.asked (Answered m.body))) (sym from_is)
        ∙ ap (λ (q : Request). asked_after u.goal after.entries a.request.server q.asked (effect_of u.goal q.asked (Answered m.body))) (sym same) in
        ap (asks_of_server from) one
        ∙ ap (λ (s : ℕ). asks_of_server s (follow_ups u.goal after.entries answered)) (sym from_is)
        ∙ sym (ap (follow_ups_of u.goal after.entries) there)

    -- each beginning of it may be asked
    pub answer_begins : IsCourse u → (k : ℕ) → IsCourse (with_record u (asked_all (asks_of_server from (take k (asked_after u.goal after.entries from r.asked effect))) after))
    answer_begins c k =
        let passed : IsPassed u.goal after.entries position = answered_passed u.goal from m now u.requests position h.counts c.trails in
        let one : Some passed.request ≡ Some answered = sym passed.there ∙ there in
        let is : passed.request ≡ answered = cc in
        let server : passed.request.server ≡ from = ap (λ (q : Request). q.server) is ∙ from_is in
        let asked : passed.request.asked ≡ r.asked = ap (λ (q : Request). q.asked) is ∙ ap (λ (q : Request). q.asked) same in
        let early : is_early u.requests.entries a.request.server a.request.asked ≡ false = sym (ap (is_early_in u.requests.entries) a.there) ∙ h.turn in
        let turn : is_early after.entries passed.request.server r.asked ≡ false =
        ap (λ (q : Request). is_early after.entries q.server r.asked) is ∙ ap (λ (q : Request). is_early after.entries a.request.server q.asked) (sym same) ∙ early_goes u.requests.entries after.entries (message_goes from m now u.requests) a.request.server a.request.asked early in
        subst (λ (s : ℕ). IsCourse (with_record u (asked_all (asks_of_server s (take k (asked_after u.goal after.entries s r.asked effect))) after))) server
        (follow_begins (with_record u after) (message_course u from m now after refl c) position passed r.asked asked effect (λ _. turn) k)

-- ---- the whole step

module _ (u : UploadState) (from : ℕ) (m : Message) (now : ℕ) (position : ℕ) (heard_so : heard_at from m u.requests ≡ Some position) where
  abbrev h : Heard from m u.requests position
  h = heard_counts from m u.requests position heard_so

  -- the record once what follows is asked
  pub answer_recorded : (r : Request) (effect : Effect) (mid : RequestsState) (new : UploadState) → slice_get u.requests.entries position ≡ Some r → effect ≡ effect_of u.goal r.asked (Answered m.body) → mid ≡ after_message from m now u.requests
      → new ≡ with_record u (asked_all (asks_of_server from (asked_after u.goal mid.entries from r.asked effect)) mid) → new ≡ with_record u (followed_at u.goal position (after_message from m now u.requests))
  answer_recorded r effect mid new found does is e =
      let after : RequestsState = after_message from m now u.requests in
      e ∙ ap (λ (q : RequestsState). with_record u (asked_all (asks_of_server from (asked_after u.goal q.entries from r.asked effect)) q)) is
      ∙ ap (λ (asks : List (ℕ × Asked)). with_record u (asked_all asks after)) (answer_follows u from m now position h r effect found does)

  pub advances_on : (new : UploadState) → u.status ≡ Running → GoesOn u (followed_at u.goal position (after_message from m now u.requests)) new → Advances from m now u new
  advances_on new runs goes = record {
    running = λ _. subst (λ (o : Option ℕ). AdvancesAt o (after_heard from m now u.requests) u new) (sym heard_so) (subst (λ (r : RequestsState). GoesOn u (followed_at u.goal position r) new) (sym (heard_after from m now u.requests position heard_so)) goes);
    ended = λ over. absurd (over runs);
  }

  pub advances_ended : (new : UploadState) → u.status ≢ Running → new ≡ with_record u (after_message from m now u.requests) → Advances from m now u new
  advances_ended new over is = record {
    running = λ runs. absurd (over runs);
    ended = λ _. is ∙ ap (with_record u) (sym (heard_after from m now u.requests position heard_so));
  }
