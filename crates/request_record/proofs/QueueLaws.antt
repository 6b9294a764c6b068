-- How the order of what is to send goes on.
use Rattle.std.proofs.Common.{◌≡◌, ℕ, zero, suc, ◌+◌, ◌-◌, ◌<◌, ◌≤◌, Bool, true, false, cond, List, [], ◌∷◌, ◌++◌, length, set, map, Some, refl, sym, ap, subst, ◌∙◌, arith}
use Rattle.std.specs.Prelude.{◌==◌, ◌&&◌, not, slice_get, slice_set, nat_lt, nat_le, filter}
use Rattle.std.specs.List.{All}
use Rattle.std.proofs.lemmas.Bool.{ltb-true, leb-true, lt-ltb, eqb-true}
use Rattle.std.proofs.lemmas.List.Elements.{All-nil, All-cons, All-head, All-tail, All-weaker}
use Rattle.lemmas.proofs.Bools.{both}
use Rattle.request_record.specs.declared.requests.Outcome.{Outcome}
use Rattle.request_record.specs.declared.requests.Outcome.TheVariants.{Lost}
use Rattle.request_record.specs.declared.requests.Request.{Request}
use Rattle.request_record.specs.Record.{AreInOrder, IsRecord, IsIndexed, is_current_in, was_sent_again, was_sent_again_in, sent_to, without, without_lost, is_outstanding, with_outcome, passed, age_of, is_lost_at, is_resent_at, is_lost_in, resent_one, ticked_one, positions_from, resent_positions, requests_state}

-- the request at a position was sent again
abbrev IsAgain : List Request → ℕ → Type 0
IsAgain entries position = was_sent_again_in (slice_get entries position) ≡ true

-- What was sent again in these requests was so in those.
abbrev StayAgain : List Request → List Request → Type 0
StayAgain entries new = (p : ℕ) → IsAgain entries p → IsAgain new p

-- ---- the position up to which all were sent

sent_on : (b : Bool) (position sent : ℕ) → (b ≡ false → sent ≤ position) → sent ≤ cond b sent (position + 1)
sent_on true position sent ahead = omega arith
sent_on false position sent ahead = omega (arith, ahead refl)

sent_less : (was is : Bool) (position less sent : ℕ) → less ≤ sent → (was ≡ true → is ≡ true) → (was ≡ false → sent ≤ position) → cond is less (position + 1) ≤ cond was sent (position + 1)
sent_less true true position less sent le stays ahead = le
sent_less true false position less sent le stays ahead = absurd (let e : false ≡ true = stays refl in cc)
sent_less false true position less sent le stays ahead = omega (arith, le, ahead refl)
sent_less false false position less sent le stays ahead = omega arith

sent_most : (b : Bool) (position sent n : ℕ) → sent ≤ n → position < n → cond b sent (position + 1) ≤ n
sent_most true position sent n le lt = le
sent_most false position sent n le lt = omega (arith, lt)

was_first : (was is : Bool) → (was ≡ true → is ≡ true) → is ≡ false → was ≡ false
was_first true is stays e = sym (stays refl) ∙ e
was_first false is stays e = refl

-- ---- the order

order_stays : (entries new : List Request) → StayAgain entries new → (less sent : ℕ) → less ≤ sent → (positions : List ℕ) → AreInOrder sent entries positions → AreInOrder less new positions
order_stays entries new stays less sent le [] o = o
order_stays entries new stays less sent le (p ∷ ps) o =
    let was = was_sent_again_in (slice_get entries p) in
    let is = was_sent_again_in (slice_get new p) in (
      (λ e. omega (arith, le, o.0 (was_first was is (stays p) e))),
      order_stays entries new stays (cond is less (p + 1)) (cond was sent (p + 1)) (sent_less was is p less sent le (stays p) o.0) ps o.1,
    )

order_kept : (entries : List Request) (test : ℕ → Bool) (sent : ℕ) (positions : List ℕ) → AreInOrder sent entries positions → AreInOrder sent entries (filter test positions)
order_kept entries test sent [] o = o
order_kept entries test sent (p ∷ ps) o = go (test p) (order_kept entries test (sent_to (slice_get entries p) p sent) ps o.1)
  where
    go : (b : Bool) → AreInOrder (sent_to (slice_get entries p) p sent) entries (filter test ps) → AreInOrder sent entries (cond b (p ∷ filter test ps) (filter test ps))
    go true rest = (o.0, rest)
    go false rest = order_stays entries entries (λ q e. e) sent (sent_to (slice_get entries p) p sent) (sent_on (was_sent_again_in (slice_get entries p)) p sent o.0) (filter test ps) rest

not_first : (b : Bool) → b ≡ true → b ≡ false → ⊥
not_first true e f = cc
not_first false e f = cc

order_again : (entries : List Request) (sent : ℕ) (more : List ℕ) → All (IsAgain entries) more → AreInOrder sent entries more
order_again entries sent [] again = tt
order_again entries sent (p ∷ ps) again =
    let here : IsAgain entries p = All-head (IsAgain entries) p ps again in (
      (λ e. absurd (not_first (was_sent_again_in (slice_get entries p)) here e)),
      subst (λ (s : ℕ). AreInOrder s entries ps) (sym (ap (λ (b : Bool). cond b sent (p + 1)) here)) (order_again entries sent ps (All-tail (IsAgain entries) p ps again)),
    )

order_append : (entries : List Request) (sent : ℕ) (positions more : List ℕ) → All (IsAgain entries) more → AreInOrder sent entries positions → AreInOrder sent entries (positions ++ more)
order_append entries sent [] more again o = order_again entries sent more again
order_append entries sent (p ∷ ps) more again o = (o.0, order_append entries (sent_to (slice_get entries p) p sent) ps more again o.1)

order_push : (entries : List Request) (n sent : ℕ) (positions : List ℕ) → All (λ p. p < n) positions → sent ≤ n → AreInOrder sent entries positions → AreInOrder sent entries (positions ++ n ∷ [])
order_push entries n sent [] there le o = ((λ e. le), tt)
order_push entries n sent (p ∷ ps) there le o =
    (o.0, order_push entries n (sent_to (slice_get entries p) p sent) ps (All-tail (λ q. q < n) p ps there) (sent_most (was_sent_again_in (slice_get entries p)) p sent n le (All-head (λ q. q < n) p ps there)) o.1)

-- a position before which all were sent, and whose request was not sent again, is not to be sent
pub unqueued : (entries : List Request) (position sent : ℕ) (positions : List ℕ) → position < sent → was_sent_again_in (slice_get entries position) ≡ false → AreInOrder sent entries positions → without position positions ≡ positions
unqueued entries position sent [] lt first o = refl
unqueued entries position sent (p ∷ ps) lt first o =
    go (p == position) refl (unqueued entries position (sent_to (slice_get entries p) p sent) ps (omega (arith, lt, sent_on (was_sent_again_in (slice_get entries p)) p sent o.0)) first o.1)
  where
    go : (b : Bool) → (p == position) ≡ b → without position ps ≡ ps → cond (not b) (p ∷ without position ps) (without position ps) ≡ p ∷ ps
    go true e rest = absurd (omega (arith, lt, eqb-true p position e, o.0 (ap (λ (q : ℕ). was_sent_again_in (slice_get entries q)) (eqb-true p position e) ∙ first)))
    go false e rest = ap (λ (qs : List ℕ). p ∷ qs) rest

-- ---- asking, sending, answers and ticks

stays_pushed : (entries : List Request) (r : Request) → StayAgain entries (entries ++ r ∷ [])
stays_pushed [] r p e = absurd cc
stays_pushed (q ∷ qs) r zero e = e
stays_pushed (q ∷ qs) r (suc p) e = stays_pushed qs r p e

pub asked_order : (sent : ℕ) (entries : List Request) (r : Request) (outgoing : List ℕ) → sent ≤ length entries → All (λ position. position < length entries) outgoing → AreInOrder sent entries outgoing → AreInOrder sent (entries ++ r ∷ []) (outgoing ++ length entries ∷ [])
asked_order sent entries r outgoing within there o =
    order_push (entries ++ r ∷ []) (length entries) sent outgoing there within (order_stays entries (entries ++ r ∷ []) (stays_pushed entries r) sent sent (omega arith) outgoing o)

pub taken_right : (session clock position : ℕ) (entries : List Request) (rest : List ℕ) → IsRecord (requests_state session entries (position ∷ rest) clock)
    → IsRecord (requests_state session entries rest clock)
taken_right session clock position entries rest right = record {
  few = right.few;
  there = All-tail (λ p. p < length entries) position rest right.there;
  current = All-tail (λ p. is_current_in (slice_get entries p) ≡ true) position rest right.current;
}

pub taken_indexed : (n from sent position : ℕ) (entries : List Request) (rest : List ℕ) → position < length entries → IsIndexed n from sent entries (position ∷ rest) → IsIndexed n from (sent_to (slice_get entries position) position sent) entries rest
taken_indexed n from sent position entries rest there i = record {
  counts = i.counts;
  before = i.before;
  within = sent_most (was_sent_again_in (slice_get entries position)) position sent (length entries) i.within there;
  order = i.order.1;
}

stays_set : (entries : List Request) (position : ℕ) (r : Request) (o : Outcome) → slice_get entries position ≡ Some r → StayAgain entries (set entries position (with_outcome r o))
stays_set [] position r o is p e = absurd cc
stays_set (q ∷ qs) zero r o is zero e = ap was_sent_again_in (sym is) ∙ e
stays_set (q ∷ qs) zero r o is (suc p) e = e
stays_set (q ∷ qs) (suc position) r o is zero e = e
stays_set (q ∷ qs) (suc position) r o is (suc p) e = stays_set qs position r o is p e

pub answered_order : (sent position : ℕ) (entries : List Request) (r : Request) (o : Outcome) (outgoing : List ℕ) → slice_get entries position ≡ Some r → AreInOrder sent entries outgoing → AreInOrder sent (slice_set entries position (with_outcome r o)) (without position outgoing)
answered_order sent position entries r o outgoing is order =
    let new : List Request = slice_set entries position (with_outcome r o) in
    order_kept new (λ (p : ℕ). not (p == position)) sent outgoing (order_stays entries new (stays_set entries position r o is) sent sent (omega arith) outgoing order)

resent_marks : (now : ℕ) (r : Request) → is_resent_at now r ≡ true → r.marks < passed (age_of now r)
resent_marks now r e = ltb-true r.marks (passed (age_of now r)) (both (is_outstanding r.outcome && nat_lt (age_of now r) 20) (nat_lt r.marks (passed (age_of now r))) e).1

resent_one_again : (now : ℕ) (r : Request) → is_resent_at now r ≡ true → was_sent_again (resent_one now r) ≡ true
resent_one_again now r e = lt-ltb 0 (passed (age_of now r)) (let more = resent_marks now r e in omega (arith, more))

again_ticked : (now : ℕ) (r : Request) → was_sent_again r ≡ true → was_sent_again (ticked_one now r) ≡ true
again_ticked now r was = go (is_lost_at now r) (is_resent_at now r) refl
  where
    go : (lost again : Bool) → is_resent_at now r ≡ again → was_sent_again (cond lost (with_outcome r Lost) (cond again (resent_one now r) r)) ≡ true
    go true again e = was
    go false true e = resent_one_again now r e
    go false false e = was

stays_ticked : (now : ℕ) (entries : List Request) → StayAgain entries (map (ticked_one now) entries)
stays_ticked now [] p e = absurd cc
stays_ticked now (q ∷ qs) zero e = again_ticked now q e
stays_ticked now (q ∷ qs) (suc p) e = stays_ticked now qs p e

resent_not_lost : (now : ℕ) (r : Request) → is_resent_at now r ≡ true → is_lost_at now r ≡ true → ⊥
resent_not_lost now r again lost =
    let young : age_of now r < 20 = ltb-true (age_of now r) 20 (both (is_outstanding r.outcome) (nat_lt (age_of now r) 20) (both (is_outstanding r.outcome && nat_lt (age_of now r) 20) (nat_lt r.marks (passed (age_of now r))) again).0).1 in
    let old : 20 ≤ age_of now r = leb-true 20 (age_of now r) (both (is_outstanding r.outcome) (nat_le 20 (age_of now r)) lost).1 in
    omega (arith, young, old)

resent_ticked : (now : ℕ) (r : Request) → is_resent_at now r ≡ true → was_sent_again (ticked_one now r) ≡ true
resent_ticked now r e = go (is_lost_at now r) (is_resent_at now r) refl e
  where
    go : (lost again : Bool) → is_lost_at now r ≡ lost → again ≡ true → was_sent_again (cond lost (with_outcome r Lost) (cond again (resent_one now r) r)) ≡ true
    go true again l a = absurd (resent_not_lost now r e l)
    go false true l a = resent_one_again now r e
    go false false l a = absurd cc

abbrev IsAgainFrom : ℕ → List Request → ℕ → Type 0
IsAgainFrom position rs p = (position ≤ p) × IsAgain rs (p - position)

resent_again : (now position : ℕ) (rs : List Request) → All (IsAgainFrom position (map (ticked_one now) rs)) (positions_from (is_resent_at now) position rs)
resent_again now position [] = All-nil (IsAgainFrom position [])
resent_again now position (r ∷ rs) = go (is_resent_at now r) refl (All-weaker (IsAgainFrom (position + 1) others) (IsAgainFrom position all) behind rest (resent_again now (position + 1) rs))
  where
    others : List Request
    others = map (ticked_one now) rs

    all : List Request
    all = ticked_one now r ∷ others

    rest : List ℕ
    rest = positions_from (is_resent_at now) (position + 1) rs

    behind : (p : ℕ) → IsAgainFrom (position + 1) others p → IsAgainFrom position all p
    behind p h =
        let next : p - position ≡ suc (p - (position + 1)) = omega (arith, h.0) in
        (omega (arith, h.0), ap (λ (k : ℕ). was_sent_again_in (slice_get all k)) next ∙ h.1)

    go : (b : Bool) → is_resent_at now r ≡ b → All (IsAgainFrom position all) rest → All (IsAgainFrom position all) (cond b (position ∷ rest) rest)
    go true e later =
        let first : position - position ≡ 0 = omega arith in
        let here : IsAgainFrom position all position = (omega arith, ap (λ (k : ℕ). was_sent_again_in (slice_get all k)) first ∙ resent_ticked now r e) in
        All-cons (IsAgainFrom position all) position rest here later
    go false e later = later

pub ticked_order : (now sent : ℕ) (entries : List Request) (outgoing : List ℕ) → AreInOrder sent entries outgoing → AreInOrder sent (map (ticked_one now) entries) (without_lost now entries (outgoing ++ resent_positions now entries))
ticked_order now sent entries outgoing o =
    let new : List Request = map (ticked_one now) entries in
    let again : All (IsAgain new) (resent_positions now entries) = All-weaker (IsAgainFrom 0 new) (IsAgain new) (λ p h. subst (IsAgain new) (let e : p - 0 ≡ p = omega arith in e) h.1) (resent_positions now entries) (resent_again now 0 entries) in
    let stays : AreInOrder sent new outgoing = order_stays entries new (stays_ticked now entries) sent sent (omega arith) outgoing o in
    order_kept new (λ (position : ℕ). not (is_lost_in now (slice_get entries position))) sent (outgoing ++ resent_positions now entries) (order_append new sent outgoing (resent_positions now entries) again stays)
