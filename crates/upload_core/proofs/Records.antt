-- How the record of an upload goes on, and what stays true of it.
use Rattle.std.proofs.Common.{◌≡◌, ℕ, zero, suc, ◌+◌, ◌<◌, ◌-◌, ◌⊎◌, inl, inr, Bool, true, false, cond, ◌&&◌, ◌||◌, List, [], ◌∷◌, ◌++◌, All, Some, Result, Ok, Err, OnErr, length, map, filter, eqb, refl, sym, ap, subst, ◌∙◌, arith, true≢false}
use Rattle.std.specs.Prelude.{slice_get, slice_set, nat_le, nat_lt}
use Rattle.std.specs.List.{IsDistinct}
use Rattle.std.proofs.lemmas.List.{append-nil, length-append}
use Rattle.std.proofs.lemmas.List.Elements.{All-nil, All-cons, All-head, All-tail, All-push, All-weaker, filter-append}
use Rattle.std.proofs.lemmas.List.Folds.{list_any-append}
use Rattle.wire.specs.declared.message.Body.{Body}
use Rattle.request_record.specs.declared.requests.Asked.{Asked}
use Rattle.request_record.specs.declared.requests.Asked.TheVariants.{Holdings, Allocation, Writing, Closing, Reading, Aborting}
use Rattle.request_record.specs.declared.requests.Outcome.{Outcome}
use Rattle.request_record.specs.declared.requests.Outcome.TheVariants.{Unawaited, Outstanding, Answered, Lost}
use Rattle.request_record.specs.declared.requests.Request.{Request}
use Rattle.request_record.specs.Record.{RequestsState, asked_more, first_outcome, first_request, is_lost_at, is_outstanding, is_resent_at, age_of, passed, resent_one, ticked_one, with_outcome}
use Rattle.upload_core.specs.State.{Goal, UploadState, with_record}
use Rattle.upload_core.specs.Rounds.{asked_answered_as, has_answered_as}
use Rattle.upload_core.specs.Course.{IsCourse, IsInside, IsOfTold, IsWaitedFor, asked_servers, has_told, is_holdings, is_told, is_unawaited}
use Rattle.upload_core.specs.Transfers.{is_transfer}
use Rattle.upload_core.specs.Trails.{AreTrails, GoesFurther, IsAbout, IsBefore, IsWithin, rank_of, reach_of, share_of}
use Rattle.placement.specs.Matching.{Pair}
use Rattle.std.proofs.lemmas.Bool.{cases_lt, or_left, or_right}
use Rattle.std.proofs.lemmas.Option.{slice_get_within}
use Rattle.lemmas.proofs.Positions.{get_last, get_push}
use Rattle.lemmas.proofs.Bools.{both}
use Rattle.upload_core.proofs.Follow.{IsGood}

-- ---- the same requests, and more answers

pub record IsSame (r n : Request) : Type 0 where
  pub server : n.server ≡ r.server
  pub asked : n.asked ≡ r.asked
  pub told : has_told r ≡ true → has_told n ≡ true
  pub still : is_outstanding r.outcome ≡ false → n ≡ r
  pub waits : is_unawaited n.outcome ≡ true → is_unawaited r.outcome ≡ true

abbrev pub Goes : List Request → List Request → Type 0
Goes [] [] = Unit {0}
Goes [] (n ∷ ns) = ⊥
Goes (r ∷ rs) [] = ⊥
Goes (r ∷ rs) (n ∷ ns) = IsSame r n × Goes rs ns

same_refl : (r : Request) → IsSame r r
same_refl r = record { server = refl; asked = refl; told = λ h. h; still = λ q. refl; waits = λ h. h }

pub goes_refl : (es : List Request) → Goes es es
goes_refl [] = tt
goes_refl (r ∷ rs) = (same_refl r, goes_refl rs)

-- what waits for its answer was not answered
untold_as : (ro : Bool) (a : Asked) (o : Outcome) → is_outstanding o ≡ true → asked_answered_as ro a o ≡ true → ⊥
untold_as ro Holdings Outstanding w h = cc
untold_as ro (Allocation share len) Outstanding w h = cc
untold_as ro (Writing share offset len) Outstanding w h = cc
untold_as ro (Closing share) Outstanding w h = cc
untold_as ro (Reading share offset len) Outstanding w h = cc
untold_as ro (Aborting share) Outstanding w h = cc
untold_as ro a Unawaited w h = absurd cc
untold_as ro a (Answered body) w h = absurd cc
untold_as ro a Lost w h = absurd cc

pub either : (a b : Bool) → (a || b) ≡ true → (a ≡ true) ⊎ (b ≡ true)
either true b h = inl refl
either false b h = inr h

untold : (r : Request) → is_outstanding r.outcome ≡ true → has_told r ≡ true → ⊥
untold r w h = elim (either (has_answered_as true r) (has_answered_as false r) h) [
  | inl t ↦ untold_as true r.asked r.outcome w t
  | inr f ↦ untold_as false r.asked r.outcome w f
]

-- a request that waits, with any outcome
same_settled : (r : Request) (o : Outcome) → is_unawaited o ≡ false → is_outstanding r.outcome ≡ true → IsSame r (with_outcome r o)
same_settled r o known w = record {
  server = refl;
  asked = refl;
  told = λ h. absurd (untold r w h);
  still = λ q. absurd (true≢false (sym w ∙ q));
  waits = λ h. absurd (true≢false (sym h ∙ known));
}

pub same_ticked : (now : ℕ) (r : Request) → IsSame r (ticked_one now r)
same_ticked now r = by (is_lost_at now r) (is_resent_at now r) refl refl
  where
    waits_again : is_resent_at now r ≡ true → is_outstanding r.outcome ≡ true
    waits_again f = (both (is_outstanding r.outcome) (nat_lt (age_of now r) 20) (both (is_outstanding r.outcome && nat_lt (age_of now r) 20) (nat_lt r.marks (passed (age_of now r))) f).0).0

    by : (lost again : Bool) → is_lost_at now r ≡ lost → is_resent_at now r ≡ again → IsSame r (cond lost (with_outcome r Lost) (cond again (resent_one now r) r))
    by true again e f = same_settled r Lost refl (both (is_outstanding r.outcome) (nat_le 20 (now - r.first_sent)) e).0
    by false true e f = record { server = refl; asked = refl; told = λ h. h; still = λ q. absurd (true≢false (sym (waits_again f) ∙ q)); waits = λ h. h }
    by false false e f = same_refl r

pub goes_ticked : (now : ℕ) (es : List Request) → Goes es (map (ticked_one now) es)
goes_ticked now [] = tt
goes_ticked now (r ∷ rs) = (same_ticked now r, goes_ticked now rs)

pub goes_settled : (es : List Request) (position : ℕ) (r : Request) (body : Body) → slice_get es position ≡ Some r → is_outstanding r.outcome ≡ true → Goes es (slice_set es position (with_outcome r (Answered body)))
goes_settled [] position r body e w = absurd cc
goes_settled (q ∷ qs) zero r body e w =
    let same : q ≡ r = cc in
    (subst (λ (x : Request). IsSame x (with_outcome r (Answered body))) (sym same) (same_settled r (Answered body) refl w), goes_refl qs)
goes_settled (q ∷ qs) (suc position) r body e w = (same_refl q, goes_settled qs position r body e w)

-- the request that was at a position
pub record Was (es : List Request) (i : ℕ) (n : Request) : Type 0 where
  pub request : Request
  pub there : slice_get es i ≡ Some request
  pub same : IsSame request n

pub was_goes : (es ns : List Request) → Goes es ns → (i : ℕ) (n : Request) → slice_get ns i ≡ Some n → Was es i n
was_goes [] [] g i n e = absurd cc
was_goes [] (m ∷ ms) g i n e = absurd g
was_goes (r ∷ rs) [] g i n e = absurd g
was_goes (r ∷ rs) (m ∷ ms) g zero n e = let is : m ≡ n = cc in record { request = r; there = refl; same = subst (IsSame r) is g.0 }
was_goes (r ∷ rs) (m ∷ ms) g (suc i) n e = let w = was_goes rs ms g.1 i n e in record { request = w.request; there = w.there; same = w.same }

-- the request that is at a position now
pub record Becomes (ns : List Request) (i : ℕ) (r : Request) : Type 0 where
  pub request : Request
  pub there : slice_get ns i ≡ Some request
  pub same : IsSame r request

pub becomes_goes : (es ns : List Request) → Goes es ns → (i : ℕ) (r : Request) → slice_get es i ≡ Some r → Becomes ns i r
becomes_goes [] ns g i r e = absurd cc
becomes_goes (q ∷ qs) [] g i r e = absurd g
becomes_goes (q ∷ qs) (m ∷ ms) g zero r e = let is : q ≡ r = cc in record { request = m; there = refl; same = subst (λ (x : Request). IsSame x m) is g.0 }
becomes_goes (q ∷ qs) (m ∷ ms) g (suc i) r e = let b = becomes_goes qs ms g.1 i r e in record { request = b.request; there = b.there; same = b.same }

-- what waits no more stays as it is
pub stays_goes : (es ns : List Request) → Goes es ns → (i : ℕ) (r : Request) → slice_get es i ≡ Some r → is_outstanding r.outcome ≡ false → slice_get ns i ≡ Some r
stays_goes es ns g i r e quiet = let b = becomes_goes es ns g i r e in b.there ∙ ap Some (b.same.still quiet)

pub length_goes : (es ns : List Request) → Goes es ns → length ns ≡ length es
length_goes [] [] g = refl
length_goes [] (n ∷ ns) g = absurd g
length_goes (r ∷ rs) [] g = absurd g
length_goes (r ∷ rs) (n ∷ ns) g = ap suc (length_goes rs ns g.1)

pub told_goes : (s : ℕ) (es ns : List Request) → Goes es ns → is_told es s ≡ true → is_told ns s ≡ true
told_goes s [] ns g h = absurd (true≢false (sym h))
told_goes s (r ∷ rs) [] g h = absurd g
told_goes s (r ∷ rs) (n ∷ ns) g h = elim (either (has_told r && eqb s r.server) (is_told rs s) h) [
  | inl here ↦ (
      let t = both (has_told r) (eqb s r.server) here in
      let told : has_told n ≡ true = g.0.told t.0 in
      let at : eqb s n.server ≡ true = ap (eqb s) g.0.server ∙ t.1 in
      rw (told, at) refl)
  | inr there ↦ or_right (has_told n && eqb s n.server) (is_told ns s) (told_goes s rs ns g.1 there)
]

pub asked_goes : (es ns : List Request) → Goes es ns → asked_servers ns ≡ asked_servers es
asked_goes [] [] g = refl
asked_goes [] (n ∷ ns) g = absurd g
asked_goes (r ∷ rs) [] g = absurd g
asked_goes (r ∷ rs) (n ∷ ns) g = by (is_holdings r.asked) (is_holdings n.asked) (ap is_holdings g.0.asked) (asked_goes rs ns g.1)
  where
    by : (b c : Bool) → c ≡ b → asked_servers ns ≡ asked_servers rs
        → map (λ (q : Request). q.server) (cond c (n ∷ filter (λ (q : Request). is_holdings q.asked) ns) (filter (λ (q : Request). is_holdings q.asked) ns))
        ≡ map (λ (q : Request). q.server) (cond b (r ∷ filter (λ (q : Request). is_holdings q.asked) rs) (filter (λ (q : Request). is_holdings q.asked) rs))
    by true true e rest = ap (λ (s : ℕ). s ∷ asked_servers ns) g.0.server ∙ ap (λ (ss : List ℕ). r.server ∷ ss) rest
    by true false e rest = absurd (true≢false (sym e))
    by false true e rest = absurd (true≢false e)
    by false false e rest = rest

abbrev IsIn : Goal → Request → Type 0
IsIn g r = IsInside g r.asked

inside_goes : (g : Goal) (es ns : List Request) → Goes es ns → All (IsIn g) es → All (IsIn g) ns
inside_goes g [] [] k all = all
inside_goes g [] (n ∷ ns) k all = absurd k
inside_goes g (r ∷ rs) [] k all = absurd k
inside_goes g (r ∷ rs) (n ∷ ns) k all = All-cons (IsIn g) n ns (subst (IsInside g) (sym k.0.asked) (All-head (IsIn g) r rs all)) (inside_goes g rs ns k.1 (All-tail (IsIn g) r rs all))

of_told_goes : (old new es ns : List Request) → ((s : ℕ) → is_told old s ≡ true → is_told new s ≡ true) → Goes es ns → All (IsOfTold old) es → All (IsOfTold new) ns
of_told_goes old new [] [] more k all = All-nil (IsOfTold new)
of_told_goes old new [] (n ∷ ns) more k all = absurd k
of_told_goes old new (r ∷ rs) [] more k all = absurd k
of_told_goes old new (r ∷ rs) (n ∷ ns) more k all =
    All-cons (IsOfTold new) n ns
    (elim (All-head (IsOfTold old) r rs all) [
      | inl h ↦ inl (ap is_holdings k.0.asked ∙ h)
      | inr t ↦ inr (more n.server (subst (λ (s : ℕ). is_told old s ≡ true) (sym k.0.server) t))
    ])
    (of_told_goes old new rs ns more k.1 (All-tail (IsOfTold old) r rs all))

waited_goes : (es ns : List Request) → Goes es ns → All IsWaitedFor es → All IsWaitedFor ns
waited_goes [] [] k all = all
waited_goes [] (n ∷ ns) k all = absurd k
waited_goes (r ∷ rs) [] k all = absurd k
waited_goes (r ∷ rs) (n ∷ ns) k all = All-cons IsWaitedFor n ns here (waited_goes rs ns k.1 (All-tail IsWaitedFor r rs all))
  where
    here : IsWaitedFor n
    here t = by (is_unawaited n.outcome) refl
      where
        by : (b : Bool) → is_unawaited n.outcome ≡ b → is_unawaited n.outcome ≡ false
        by true e = absurd (true≢false (sym (k.0.waits e) ∙ All-head IsWaitedFor r rs all (ap is_transfer (sym k.0.asked) ∙ t)))
        by false e = e

first_waited : (asked : Asked) → is_transfer asked ≡ true → is_unawaited (first_outcome asked) ≡ false
first_waited Holdings t = refl
first_waited (Allocation share len) t = refl
first_waited (Writing share offset len) t = refl
first_waited (Closing share) t = refl
first_waited (Reading share offset len) t = refl
first_waited (Aborting share) t = absurd (true≢false (sym t))

-- a request is about the pair that the one before it was about
pub about_was : (pair : Pair) (r n : Request) → IsSame r n → IsAbout pair n → IsAbout pair r
about_was pair r n s a = (sym s.server ∙ a.0, ap share_of (sym s.asked) ∙ a.1)

-- what waits now waited before
pub waits_was : (r n : Request) → IsSame r n → is_outstanding n.outcome ≡ true → is_outstanding r.outcome ≡ true
waits_was r n s w = by (is_outstanding r.outcome) refl
  where
    by : (b : Bool) → is_outstanding r.outcome ≡ b → is_outstanding r.outcome ≡ true
    by true e = e
    by false e = absurd (true≢false (sym w ∙ ap (λ (q : Request). is_outstanding q.outcome) (s.still e) ∙ e))

trails_goes : (g : Goal) (es ns : List Request) → Goes es ns → AreTrails g es → AreTrails g ns
trails_goes g es ns k trails i j a b pair lt first second about next =
    let f = was_goes es ns k i a first in
    let s = was_goes es ns k j b second in
    let before = trails i j f.request s.request pair lt f.there s.there (about_was pair f.request a f.same about) (about_was pair s.request b s.same next) in
    record {
      further = subst (λ (x : Asked). reach_of g a.asked < rank_of g x) (sym s.same.asked) (subst (λ (x : Asked). reach_of g x < rank_of g s.request.asked) (sym f.same.asked) before.further);
      within = λ waits. subst (IsWithin g a.asked) (sym s.same.asked) (subst (λ (x : Asked). IsWithin g x s.request.asked) (sym f.same.asked) (before.within (waits_was f.request a f.same waits)));
    }

pub course_goes : (u : UploadState) (r : RequestsState) → Goes u.requests.entries r.entries → IsCourse u → IsCourse (with_record u r)
course_goes u r k c = record {
  few = c.few;
  some = c.some;
  long = c.long;
  distinct = subst (IsDistinct eqb) (sym (asked_goes u.requests.entries r.entries k)) c.distinct;
  inside = inside_goes u.goal u.requests.entries r.entries k c.inside;
  of_told = of_told_goes u.requests.entries r.entries u.requests.entries r.entries (λ s h. told_goes s u.requests.entries r.entries k h) k c.of_told;
  waited = waited_goes u.requests.entries r.entries k c.waited;
  trails = trails_goes u.goal u.requests.entries r.entries k c.trails;
  begun = omega (arith, c.begun, length_goes u.requests.entries r.entries k);
}

-- ---- more requests

pub told_push : (es : List Request) (r : Request) (s : ℕ) → is_told es s ≡ true → is_told (es ++ r ∷ []) s ≡ true
told_push es r s h = list_any-append (λ (q : Request). has_told q && eqb s q.server) es (r ∷ []) ∙ or_left (is_told es s) (is_told (r ∷ []) s) h

asked_push : (es : List Request) (r : Request) → is_holdings r.asked ≡ false → asked_servers (es ++ r ∷ []) ≡ asked_servers es
asked_push es r e =
    let test : Request → Bool = λ (q : Request). is_holdings q.asked in
    ap (map (λ (q : Request). q.server)) (filter-append test es (r ∷ []) ∙ ap (λ (l : List Request). filter test es ++ l) (none (test r) e) ∙ append-nil (filter test es))
  where
    none : (b : Bool) → b ≡ false → cond b (r ∷ []) [] ≡ []
    none true h = absurd (true≢false h)
    none false h = refl

-- one more request, which goes on from those of its trail
trails_push : (g : Goal) (es : List Request) (new : Request) → GoesFurther g es (new.server, new.asked) → AreTrails g es → AreTrails g (es ++ new ∷ [])
trails_push g es new more trails i j a b pair lt first second about next =
    let len : length (es ++ new ∷ []) ≡ length es + 1 = length-append es (new ∷ []) in
    let within : j < length (es ++ new ∷ []) = slice_get_within (es ++ new ∷ []) j b second in
    let before : i < length es = omega (arith, lt, within, len) in
    let was : slice_get es i ≡ Some a = sym (get_push es new i before) ∙ first in
    elim (cases_lt j (length es)) [
      | inl inside ↦ trails i j a b pair lt was (sym (get_push es new j inside) ∙ second) about next
      | inr le ↦ (
          let last : j ≡ length es = omega (arith, le, within, len) in
          let is : Some new ≡ Some b = sym (get_last es new) ∙ sym (ap (slice_get (es ++ new ∷ [])) last) ∙ second in
          let same : new ≡ b = cc in
          let here : IsAbout pair new = subst (IsAbout pair) (sym same) next in
          subst (λ (q : Request). IsBefore g a q.asked) same (more i a pair.1 was (about.0 ∙ sym here.0, about.1) here.1))
    ]

-- it is good to ask this of a server
pub record MayAsk (u : UploadState) (ask : ℕ × Asked) : Type 0 where
  pub good : IsGood u.goal ask.1
  pub told : is_told u.requests.entries ask.0 ≡ true
  pub further : GoesFurther u.goal u.requests.entries ask

pub course_asked : (u : UploadState) (ask : ℕ × Asked) → MayAsk u ask → IsCourse u → IsCourse (with_record u (asked_more ask.0 ask.1 u.requests))
course_asked u ask may c =
    let es = u.requests.entries in
    let new : Request = first_request ask.0 ask.1 u.requests.clock in
    record {
      few = c.few;
      some = c.some;
      long = c.long;
      distinct = subst (IsDistinct eqb) (sym (asked_push es new may.good.share)) c.distinct;
      inside = All-push (IsIn u.goal) es new c.inside may.good.inside;
      of_told = All-push (IsOfTold (es ++ new ∷ [])) es new
          (All-weaker (IsOfTold es) (IsOfTold (es ++ new ∷ [])) (λ q h. elim h [ inl x ↦ inl x | inr t ↦ inr (told_push es new q.server t) ]) es c.of_told)
          (inr (told_push es new ask.0 may.told));
      waited = All-push IsWaitedFor es new c.waited (first_waited ask.1);
      trails = trails_push u.goal es new may.further c.trails;
      begun = omega (arith, c.begun, length-append es (new ∷ []));
    }

-- what holds of a result that is an Err
pub on_err : {X E : Type 0} (r : Result X E) (P Q : Type 0) → (P → Q) → OnErr r P → OnErr r Q
on_err (Ok x) P Q f p = tt
on_err (Err e) P Q f p = f p

pub on_err_all : {X E : Type 0} (r : Result X E) (Q : Type 0) → Q → OnErr r Q
on_err_all (Ok x) Q q = tt
on_err_all (Err e) Q q = q
