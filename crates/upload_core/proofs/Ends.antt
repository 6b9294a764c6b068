-- What was answered or found lost, and what follows losses.
use Rattle.std.proofs.Common.{◌≡◌, ℕ, suc, ◌+◌, ◌-◌, ◌<◌, ◌≤◌, inl, inr, Bool, true, false, cond, List, [], ◌∷◌, ◌++◌, All, Contains, Some, length, map, max, refl, sym, ap, subst, ◌∙◌, arith, true≢false}
use Rattle.std.specs.Prelude.{slice_get, nat_le, option_map}
use Rattle.std.proofs.lemmas.List.Elements.{All-contains, All-head, All-tail, All-weaker, Contains-append_cases, Contains-append_right}
use Rattle.std.proofs.lemmas.Option.{slice_get-map, slice_get_within}
use Rattle.lemmas.proofs.Bools.{both}
use Rattle.wire.specs.declared.message.Message.{Message}
use Rattle.request_record.specs.declared.requests.Asked.{Asked}
use Rattle.request_record.specs.declared.requests.Asked.TheVariants.{Holdings, Allocation, Writing, Closing, Reading, Aborting}
use Rattle.request_record.specs.declared.requests.Outcome.TheVariants.{Answered, Lost}
use Rattle.request_record.specs.declared.requests.Request.{Request}
use Rattle.request_record.specs.Record.{RequestsState, asked_all, counts_at, is_lost_at, is_outstanding, is_resent_at, positions_from, resent_one, ticked_one, with_outcome}
use Rattle.request_record.specs.Asking.{after_message, after_tick, lost_by_tick}
use Rattle.request_record.proofs.RecordLaws.{counts_is}
use Rattle.request_record.proofs.StepLaws.{asked_joined}
use Rattle.placement.proofs.Members.{Contains-nil, Contains-uncons}
use Rattle.upload_core.specs.State.{Goal, UploadState, with_record}
use Rattle.upload_core.specs.Transfers.{fails, given_up, has_failed}
use Rattle.upload_core.specs.Course.{IsInside}
use Rattle.upload_core.specs.Moves.{Stops, follow_ups_of, followed_all}
use Rattle.upload_core.specs.Trails.{AreFailed, AreFollowed, AreTrails, HasFailed, IsAbout, IsFollowed, IsLostAt, IsPassed, IsWithin, is_abort, share_of}
use Rattle.upload_core.proofs.Follow.{given_transfer, in_one, lost_given}
use Rattle.upload_core.proofs.Lists.{all_of, contains_at, get_either, get_front, get_mapped}
use Rattle.upload_core.proofs.Records.{Goes, about_was, was_goes}
use Rattle.upload_core.proofs.Goes.{get_asked_all, message_goes, stops_then, tick_goes}
use Rattle.upload_core.proofs.Followed.{all_failed_goes, asked_from, entries_all, failed_more, followed_more, message_there, new_of, ticked_followed}

-- what waited at a position and waits no more
passed_goes : (g : Goal) (es ns : List Request) → Goes es ns → AreTrails g es → (position : ℕ) (r n : Request) → slice_get es position ≡ Some r → is_outstanding r.outcome ≡ true → slice_get ns position ≡ Some n → is_outstanding n.outcome ≡ false → IsPassed g ns position
passed_goes g es ns k trails position r n was waits there quiet = record {
  request = n;
  there = there;
  quiet = quiet;
  behind = λ i q pair lt e about next unlike.
      let first = was_goes es ns k position n there in
      let second = was_goes es ns k i q e in
      let one : Some first.request ≡ Some r = sym first.there ∙ was in
      let same : first.request ≡ r = cc in
      let before = trails position i first.request second.request pair lt first.there second.there (about_was pair first.request n first.same about) (about_was pair second.request q second.same next) in
      let within : IsWithin g first.request.asked second.request.asked = before.within (ap (λ (x : Request). is_outstanding x.outcome) same ∙ waits) in
      subst (λ (x : Asked). IsWithin g x q.asked) (sym first.same.asked) (subst (IsWithin g first.request.asked) (sym second.same.asked) within);
}

pub answered_passed : (g : Goal) (from : ℕ) (m : Message) (now : ℕ) (r : RequestsState) (position : ℕ) → counts_at from m r ≡ Some position → AreTrails g r.entries → IsPassed g (after_message from m now r).entries position
answered_passed g from m now r position counts trails =
    let a = counts_is from m r position counts in
    passed_goes g r.entries (after_message from m now r).entries (message_goes from m now r) trails position a.request (with_outcome a.request (Answered m.body)) a.there a.waits (message_there g from m now r position counts) refl

-- ---- what is lost

-- the request at a position passes the test
record IsPositionOf (test : Request → Bool) (first : ℕ) (rs : List Request) (p : ℕ) : Type 0 where
  pub behind : first ≤ p
  pub request : Request
  pub there : slice_get rs (p - first) ≡ Some request
  pub passes : test request ≡ true

position_behind : (test : Request → Bool) (first : ℕ) (r : Request) (rs : List Request) (p : ℕ) → IsPositionOf test (first + 1) rs p → IsPositionOf test first (r ∷ rs) p
position_behind test first r rs p w =
    let next : p - first ≡ suc (p - (first + 1)) = omega (arith, w.behind) in
    record { behind = omega (arith, w.behind); request = w.request; there = ap (slice_get (r ∷ rs)) next ∙ w.there; passes = w.passes }

position_from : (test : Request → Bool) (first : ℕ) (rs : List Request) (p : ℕ) → Contains (positions_from test first rs) p → IsPositionOf test first rs p
position_from test first [] p c = absurd (Contains-nil p c)
position_from test first (r ∷ rs) p c = by (test r) refl c (λ d. position_behind test first r rs p (position_from test (first + 1) rs p d))
  where
    by : (b : Bool) → test r ≡ b → Contains (cond b (first ∷ positions_from test (first + 1) rs) (positions_from test (first + 1) rs)) p → (Contains (positions_from test (first + 1) rs) p → IsPositionOf test first (r ∷ rs) p) → IsPositionOf test first (r ∷ rs) p
    by true e d later = elim (Contains-uncons first (positions_from test (first + 1) rs) p d) [
      | inl same ↦ (
          let at : p - first ≡ 0 = omega (arith, same) in
          record { behind = omega (arith, same); request = r; there = ap (slice_get (r ∷ rs)) at; passes = e })
      | inr more ↦ later more
    ]
    by false e d later = later d

lost_one : (now : ℕ) (r : Request) → is_lost_at now r ≡ true → ticked_one now r ≡ with_outcome r Lost
lost_one now r e = by (is_lost_at now r) e
  where
    by : (b : Bool) → b ≡ true → cond b (with_outcome r Lost) (cond (is_resent_at now r) (resent_one now r) r) ≡ with_outcome r Lost
    by true h = refl
    by false h = absurd (true≢false (sym h))

-- what a tick finds lost waited
pub lost_waits : (now : ℕ) (r : RequestsState) (p : ℕ) (q : Request) → Contains (lost_by_tick now r) p → slice_get r.entries p ≡ Some q → is_outstanding q.outcome ≡ true
lost_waits now r p q c e =
    let time : ℕ = max r.clock now in
    let w = position_from (is_lost_at time) 0 r.entries p c in
    let at : p - 0 ≡ p = omega arith in
    let one : Some w.request ≡ Some q = sym w.there ∙ ap (slice_get r.entries) at ∙ e in
    let same : w.request ≡ q = cc in
    ap (λ (x : Request). is_outstanding x.outcome) (sym same) ∙ (both (is_outstanding w.request.outcome) (nat_le 20 (time - w.request.first_sent)) w.passes).0

-- what a tick finds lost, and what became of it
record WasLost (now : ℕ) (r : RequestsState) (p : ℕ) : Type 0 where
  pub request : Request
  pub there : slice_get r.entries p ≡ Some request
  pub waited : is_outstanding request.outcome ≡ true
  pub after : slice_get (after_tick now r).entries p ≡ Some (with_outcome request Lost)

was_lost : (now : ℕ) (r : RequestsState) (p : ℕ) → Contains (lost_by_tick now r) p → WasLost now r p
was_lost now r p c =
    let time : ℕ = max r.clock now in
    let w = position_from (is_lost_at time) 0 r.entries p c in
    let at : p - 0 ≡ p = omega arith in
    let there : slice_get r.entries p ≡ Some w.request = ap (slice_get r.entries) (sym at) ∙ w.there in
    record {
      request = w.request;
      there = there;
      waited = (both (is_outstanding w.request.outcome) (nat_le 20 (time - w.request.first_sent)) w.passes).0;
      after = slice_get-map (ticked_one time) r.entries p ∙ ap (option_map (ticked_one time)) there ∙ ap Some (lost_one time w.request w.passes);
    }

pub lost_are : (now : ℕ) (r : RequestsState) → All (IsLostAt (after_tick now r).entries) (lost_by_tick now r)
lost_are now r = all_of (IsLostAt (after_tick now r).entries) (lost_by_tick now r) (λ p c. let w = was_lost now r p c in record { request = with_outcome w.request Lost; there = w.after; lost = refl })

pub lost_within : (es : List Request) (positions : List ℕ) → All (IsLostAt es) positions → All (λ (p : ℕ). p < length es) positions
lost_within es positions all = All-weaker (IsLostAt es) (λ (p : ℕ). p < length es) (λ p l. slice_get_within es p l.request l.there) positions all

pub lost_passed : (g : Goal) (now : ℕ) (r : RequestsState) → AreTrails g r.entries → All (IsPassed g (after_tick now r).entries) (lost_by_tick now r)
lost_passed g now r trails = all_of (IsPassed g (after_tick now r).entries) (lost_by_tick now r) each
  where
    each : (p : ℕ) → Contains (lost_by_tick now r) p → IsPassed g (after_tick now r).entries p
    each p c =
        let w = was_lost now r p c in
        passed_goes g r.entries (after_tick now r).entries (tick_goes now r) trails p w.request (with_outcome w.request Lost) w.there w.waited w.after refl

-- ---- what follows losses

-- what is asked of a server gives up a transfer, of which the request at one of these positions was
-- lost
pub record IsAfterLoss (es : List Request) (positions : List ℕ) (ask : ℕ × Asked) : Type 0 where
  pub position : ℕ
  pub among : Contains positions position
  pub request : Request
  pub there : slice_get es position ≡ Some request
  pub lost : request.outcome ≡ Lost
  pub server : request.server ≡ ask.0
  pub given : Contains (given_up request.asked) ask.1

-- so is all that follows losses
pub record Adds (g : Goal) (positions : List ℕ) (r new : RequestsState) : Type 0 where
  pub asks : List (ℕ × Asked)
  pub is : new ≡ asked_all asks r
  pub each : (ask : ℕ × Asked) → Contains asks ask → IsAfterLoss r.entries positions ask

lost_front : (r : RequestsState) (asks : List (ℕ × Asked)) (p : ℕ) → IsLostAt r.entries p → IsLostAt (asked_all asks r).entries p
lost_front r asks p l = record { request = l.request; there = get_asked_all asks r p (slice_get_within r.entries p l.request l.there) ∙ l.there; lost = l.lost }

pub losses_add : (g : Goal) (positions : List ℕ) (r : RequestsState) → All (IsLostAt r.entries) positions → Adds g positions r (followed_all g positions r)
losses_add g [] r all = record { asks = []; is = refl; each = λ ask c. absurd (Contains-nil ask c) }
losses_add g (p ∷ ps) r all =
    let l : IsLostAt r.entries p = All-head (IsLostAt r.entries) p ps all in
    let first : List (ℕ × Asked) = follow_ups_of g r.entries (slice_get r.entries p) in
    let mid : RequestsState = asked_all first r in
    let others : All (IsLostAt r.entries) ps = All-tail (IsLostAt r.entries) p ps all in
    let rest = losses_add g ps mid (All-weaker (IsLostAt r.entries) (IsLostAt mid.entries) (lost_front r first) ps others) in
    record {
      asks = first ++ rest.asks;
      is = rest.is ∙ sym (asked_joined first rest.asks r);
      each = λ ask c. elim (Contains-append_cases first rest.asks ask c) [
        | inl here ↦ (
            let by = asked_from g r.entries (slice_get r.entries p) ask here in
            let one : Some by.0 ≡ Some l.request = sym by.1 ∙ l.there in
            let same : by.0 ≡ l.request = cc in
            let lost : by.0.outcome ≡ Lost = ap (λ (q : Request). q.outcome) same ∙ l.lost in
            record { position = p; among = (0, omega arith, refl); request = by.0; there = by.1; lost = lost; server = by.3; given = lost_given g r.entries by.0 ask.1 lost by.2 })
        | inr there ↦ (
            let w = rest.each ask there in
            let k : IsLostAt r.entries w.position = All-contains (IsLostAt r.entries) ps w.position others w.among in
            let at : slice_get r.entries w.position ≡ Some w.request = sym (get_asked_all first r w.position (slice_get_within r.entries w.position k.request k.there)) ∙ w.there in
            record { position = w.position; among = Contains-append_right (p ∷ []) ps w.position w.among; request = w.request; there = at; lost = w.lost; server = w.server; given = w.given })
      ];
    }

given_abort : (a x : Asked) → Contains (given_up a) x → is_abort x ≡ true
given_abort Holdings x c = absurd (Contains-nil x c)
given_abort (Allocation share len) x c = absurd (Contains-nil x c)
given_abort (Writing share offset len) x c = ap is_abort (sym (in_one (Aborting share) x c))
given_abort (Closing share) x c = ap is_abort (sym (in_one (Aborting share) x c))
given_abort (Reading share offset len) x c = absurd (Contains-nil x c)
given_abort (Aborting share) x c = absurd (Contains-nil x c)

-- what waits no more is so while what follows losses is asked
module _ (g : Goal) (positions : List ℕ) (r : RequestsState) (lost : All (IsLostAt r.entries) positions) (p : ℕ) where
  abbrev more : Adds g positions r (followed_all g positions r)
  more = losses_add g positions r lost

  abbrev next : List Request
  next = map (new_of r.clock) more.asks

  entries_are : (followed_all g positions r).entries ≡ r.entries ++ next
  entries_are = ap (λ (q : RequestsState). q.entries) more.is ∙ entries_all more.asks r

  pub lost_after : IsLostAt r.entries p → IsLostAt (followed_all g positions r).entries p
  lost_after l = subst (λ (q : RequestsState). IsLostAt q.entries p) (sym more.is) (lost_front r more.asks p l)

  pub passed_after : IsPassed g r.entries p → IsPassed g (followed_all g positions r).entries p
  passed_after w = subst (λ (es : List Request). IsPassed g es p) (sym entries_are) (record {
    request = w.request;
    there = get_front r.entries next p w.request w.there;
    quiet = w.quiet;
    behind = λ i q pair lt e about same unlike. elim (get_either r.entries next i q e) [
      | inl front ↦ w.behind i q pair lt front about same unlike
      | inr back ↦ (
          let n = get_mapped (new_of r.clock) more.asks back.0 q back.1 in
          let a = more.each n.0 (contains_at more.asks back.0 n.0 n.1) in
          let abort : is_abort q.asked ≡ true = ap (λ (x : Request). is_abort x.asked) (sym n.2) ∙ given_abort a.request.asked n.0.1 a.given in
          absurd (true≢false (sym abort ∙ unlike)))
    ];
  })

given_share : (a x : Asked) → Contains (given_up a) x → share_of x ≡ share_of a
given_share Holdings x c = absurd (Contains-nil x c)
given_share (Allocation share len) x c = absurd (Contains-nil x c)
given_share (Writing share offset len) x c = ap share_of (sym (in_one (Aborting share) x c))
given_share (Closing share) x c = ap share_of (sym (in_one (Aborting share) x c))
given_share (Reading share offset len) x c = absurd (Contains-nil x c)
given_share (Aborting share) x c = absurd (Contains-nil x c)

-- what became of each transfer, after a tick
module _ (g : Goal) (now : ℕ) (r : RequestsState) (inside : All (λ (q : Request). IsInside g q.asked) r.entries) (positions : List ℕ) (lost : All (IsLostAt (after_tick now r).entries) positions) where
  abbrev after : RequestsState
  after = after_tick now r

  abbrev losses : Adds g positions after (followed_all g positions after)
  losses = losses_add g positions after lost

  abbrev asked : List Request
  asked = map (new_of after.clock) losses.asks

  parts : (followed_all g positions after).entries ≡ after.entries ++ asked
  parts = ap (λ (q : RequestsState). q.entries) losses.is ∙ entries_all losses.asks after

  pub followed_tick : AreFollowed g r.entries → AreFollowed g (followed_all g positions after).entries
  followed_tick followed i q pair e about =
      subst (λ (es : List Request). IsFollowed g es pair) (sym parts) (followed_more g after.entries asked pair
      (elim (get_either after.entries asked i q (sym (ap (λ (es : List Request). slice_get es i) parts) ∙ e)) [
        | inl front ↦ ticked_followed g now r inside followed i q pair front about
        | inr back ↦ (
            let n = get_mapped (new_of after.clock) losses.asks back.0 q back.1 in
            let a = losses.each n.0 (contains_at losses.asks back.0 n.0 n.1) in
            let about-new : IsAbout pair (new_of after.clock n.0) = subst (IsAbout pair) (sym n.2) about in
            ticked_followed g now r inside followed a.position a.request pair a.there (a.server ∙ about-new.0, sym (given_share a.request.asked n.0.1 a.given) ∙ about-new.1))
      ]))

  pub failed_tick : AreFailed g r.entries → AreFailed g (followed_all g positions after).entries
  failed_tick failed i q e abort =
      subst (λ (es : List Request). HasFailed g es q.server) (sym parts)
      (elim (get_either after.entries asked i q (sym (ap (λ (es : List Request). slice_get es i) parts) ∙ e)) [
        | inl front ↦ failed_more g after.entries asked q.server (all_failed_goes g r.entries after.entries (tick_goes now r) failed i q front abort)
        | inr back ↦ (
            let n = get_mapped (new_of after.clock) losses.asks back.0 q back.1 in
            let a = losses.each n.0 (contains_at losses.asks back.0 n.0 n.1) in
            let so : has_failed g a.request ≡ true = ap (fails g a.request.asked) a.lost ∙ given_transfer g a.request.asked n.0.1 a.given in
            record { position = a.position; request = a.request; there = get_front after.entries asked a.position a.request a.there; server_is = a.server ∙ ap (λ (x : Request). x.server) n.2; failed = so })
      ])

-- a step that found no memory, after some of what follows losses
pub losses_stop : (v : UploadState) (r : RequestsState) (positions : List ℕ) (mid new : UploadState) → All (IsLostAt r.entries) positions → mid ≡ with_record v (followed_all v.goal positions r) → Stops mid.requests mid new → Stops r v new
losses_stop v r positions mid new lost is stops =
    let add = losses_add v.goal positions r lost in
    stops_then v r add.asks mid new (is ∙ ap (with_record v) add.is) stops
