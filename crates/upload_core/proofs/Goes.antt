-- How an upload goes on from its record.
use Rattle.std.proofs.Common.{◌≡◌, ◌≢◌, ℕ, zero, suc, ◌+◌, ◌<◌, ◌≤◌, inl, inr, Bool, true, false, ◌&&◌, List, [], ◌∷◌, ◌++◌, All, Option, Some, None, Result, Ok, Err, length, take, map, get_or, eqb, nat_lt, IsPermutation, refl, sym, ap, subst, ◌∙◌, arith, true≢false}
use Rattle.std.specs.Prelude.{max, slice_get}
use Rattle.std.specs.Result.{IfOk}
use Rattle.std.specs.List.{AllByRecursion, IsDistinct, range_with_len}
use Rattle.std.specs.Cmp.{nat_eq_equiv}
use Rattle.std.proofs.lemmas.List.Sorted.{IsPermutation-map}
use Rattle.std.proofs.lemmas.Map.Keys.{IsDistinct-IsPermutation}
use Rattle.std.proofs.lemmas.Bool.{cases_lt, eq-eqb, ltb-true, ltb-false}
use Rattle.std.proofs.lemmas.List.{append-nil, append_assoc, length-append, length-map, map-append, take_more}
use Rattle.std.proofs.lemmas.List.Elements.{All-cons, All-head, All-nil, All-tail, All-take}
use Rattle.std.proofs.lemmas.Option.{slice_get_within}
use Rattle.lemmas.proofs.Positions.{get_last, get_push}
use Rattle.request_record.proofs.StepLaws.{asked_joined, sent_entries}
use Rattle.lemmas.proofs.Bools.{both}
use Rattle.wire.specs.declared.message.Body.{Body}
use Rattle.wire.specs.declared.message.Message.{Message}
use Rattle.request_record.specs.declared.requests.Asked.{Asked}
use Rattle.request_record.specs.declared.requests.Asked.TheVariants.{Holdings, Allocation, Writing, Closing, Reading, Aborting}
use Rattle.request_record.specs.declared.requests.Request.{Request}
use Rattle.request_record.specs.Record.{RequestsState, TakesNext, answered_in, asked_all, asked_more, at, counted_at, counts_at, first_request, is_outstanding}
use Rattle.request_record.specs.Asking.{after_message, after_tick, asks_of, begun, fresh}
use Rattle.request_record.proofs.RecordLaws.{Awaits, asked_snoc, counts_is}
use Rattle.placement.specs.Matching.{IsLargestMatching, Pair, shares_of}
use Rattle.placement.specs.Plan.{IsPlan}
use Rattle.upload_core.specs.declared.status.ServerInfo.{ServerInfo}
use Rattle.upload_core.specs.State.{Goal, UploadState, with_record}
use Rattle.upload_core.specs.Acknowledged.{acked_pairs}
use Rattle.upload_core.specs.Rounds.{IsToPlace, has_failed_since}
use Rattle.upload_core.specs.Moves.{AreInOrder, GoesOn, Stops, TicksWith, ends, followed_all, followed_at, positions, waits}
use Rattle.upload_core.specs.Course.{IsCourse, IsInside, IsOfTold, IsWaitedFor, MayPlace, allocations, asked_servers}
use Rattle.upload_core.specs.Trails.{AreFailed, AreFollowed, AreTrails, IsAbout, IsNew, is_abort, share_of}
use Rattle.upload_core.proofs.Records.{Goes, MayAsk, course_asked, course_goes, told_push, goes_refl, goes_settled, goes_ticked}

-- ---- the record

pub length_asked : (asks : List (ℕ × Asked)) (r : RequestsState) → length r.entries ≤ length (asked_all asks r).entries
length_asked [] r = omega arith
length_asked (ask ∷ asks) r =
    let new : RequestsState = asked_more ask.0 ask.1 r in
    omega (arith, length_asked asks new, length-append r.entries (first_request ask.0 ask.1 r.clock ∷ []))

answered_goes : (es : List Request) (position : ℕ) (a : Awaits es position) (body : Body) (o : Option Request) → slice_get es position ≡ o → Goes es (answered_in es position o body)
answered_goes es position a body None e = goes_refl es
answered_goes es position a body (Some r) e =
    let same : a.request ≡ r = let k : Some a.request ≡ Some r = sym a.there ∙ e in cc in
    goes_settled es position r body e (subst (λ (q : Request). is_outstanding q.outcome ≡ true) same a.waits)

counted_goes : (from : ℕ) (m : Message) (r : RequestsState) (o : Option ℕ) → counts_at from m r ≡ o → Goes r.entries (counted_at m r o).entries
counted_goes from m r None e = goes_refl r.entries
counted_goes from m r (Some position) e = answered_goes r.entries position (counts_is from m r position e) m.body (slice_get r.entries position) refl

pub message_goes : (from : ℕ) (m : Message) (now : ℕ) (r : RequestsState) → Goes r.entries (after_message from m now r).entries
message_goes from m now r = counted_goes from m (at now r) (counts_at from m (at now r)) refl

pub tick_goes : (now : ℕ) (r : RequestsState) → Goes r.entries (after_tick now r).entries
tick_goes now r = goes_ticked (max r.clock now) r.entries

pub message_course : (u : UploadState) (from : ℕ) (m : Message) (now : ℕ) (new : RequestsState) → new ≡ after_message from m now u.requests → IsCourse u → IsCourse (with_record u new)
message_course u from m now new e c = subst (λ (r : RequestsState). IsCourse (with_record u r)) (sym e) (course_goes u (after_message from m now u.requests) (message_goes from m now u.requests) c)

pub tick_course : (u : UploadState) (now : ℕ) (new : RequestsState) → new ≡ after_tick now u.requests → IsCourse u → IsCourse (with_record u new)
tick_course u now new e c = subst (λ (r : RequestsState). IsCourse (with_record u r)) (sym e) (course_goes u (after_tick now u.requests) (tick_goes now u.requests) c)

-- it goes on from a record, whatever record the upload had
pub goes_on_from : (u : UploadState) (r : RequestsState) (new : UploadState) → GoesOn (with_record u r) r new → GoesOn u r new
goes_on_from u r new g = elim g [
  | waits a e ↦ waits a e
  | positions p a b c d e ↦ positions p a b c d e
  | ends s a b c e ↦ ends s a b c e
]

-- ---- a step that found no memory

pub stops_none : (u new : UploadState) → new ≡ u → Stops u.requests u new
stops_none u new is = subst (Stops u.requests u) (sym is) (record { goal = refl; happy = refl; servers = refl; asks = []; requests = refl })

-- some was asked before it
pub stops_then : (old : UploadState) (r : RequestsState) (asks : List (ℕ × Asked)) (mid new : UploadState) → mid ≡ with_record old (asked_all asks r) → Stops mid.requests mid new → Stops r old new
stops_then old r asks mid new is s = record {
  goal = s.goal ∙ ap (λ (u : UploadState). u.goal) is;
  happy = s.happy ∙ ap (λ (u : UploadState). u.happy) is;
  servers = s.servers ∙ ap (λ (u : UploadState). u.servers) is;
  asks = asks ++ s.asks;
  requests = s.requests ∙ ap (λ (u : UploadState). asked_all s.asks u.requests) is ∙ sym (asked_joined asks s.asks r);
}

-- ---- rounds

pub allocations_more : (len : ℕ) (pairs : List Pair) (i : ℕ) (d : Pair) (r : RequestsState) → i < length pairs → asked_all (allocations len (take (i + 1) pairs)) r ≡ asked_more (get_or pairs i d).0 (Allocation (get_or pairs i d).1 len) (asked_all (allocations len (take i pairs)) r)
allocations_more len pairs i d r lt =
    let ask : Pair → ℕ × Asked = λ (p : Pair). (p.0, Allocation p.1 len) in
    ap (λ (ps : List Pair). asked_all (allocations len ps) r) (take_more pairs i d lt)
    ∙ ap (λ (asks : List (ℕ × Asked)). asked_all asks r) (map-append ask (take i pairs) (get_or pairs i d ∷ []))
    ∙ asked_snoc (map ask (take i pairs)) (ask (get_or pairs i d)) r

-- a share of another number is another pair
other_share : (p q : Pair) (asked : Asked) → eqb p.1 q.1 ≡ false → share_of asked ≡ Some p.1 → share_of asked ≡ Some q.1 → ⊥
other_share p q asked apart first second =
    let one : Some p.1 ≡ Some q.1 = sym first ∙ second in
    let same : p.1 ≡ q.1 = cc in
    true≢false (sym (eq-eqb p.1 q.1 same) ∙ apart)

new_push : (es : List Request) (new : Request) (p q : Pair) → share_of new.asked ≡ Some p.1 → eqb p.1 q.1 ≡ false → IsNew es q → IsNew (es ++ new ∷ []) q
new_push es new p q has apart is-new i r e about =
    let len : length (es ++ new ∷ []) ≡ length es + 1 = length-append es (new ∷ []) in
    let within : i < length (es ++ new ∷ []) = slice_get_within (es ++ new ∷ []) i r e in
    elim (cases_lt i (length es)) [
      | inl inside ↦ is-new i r (sym (get_push es new i inside) ∙ e) about
      | inr le ↦ (
          let last : i ≡ length es = omega (arith, le, within, len) in
          let is : Some new ≡ Some r = sym (get_last es new) ∙ sym (ap (slice_get (es ++ new ∷ [])) last) ∙ e in
          let same : new ≡ r = cc in
          other_share p q new.asked apart has (ap (λ (x : Request). share_of x.asked) same ∙ about.1))
    ]

may_push : (u : UploadState) (p q : Pair) → eqb p.1 q.1 ≡ false → MayPlace u q → MayPlace (with_record u (asked_more p.0 (Allocation p.1 u.goal.share_length) u.requests)) q
may_push u p q apart may =
    let new : Request = first_request p.0 (Allocation p.1 u.goal.share_length) u.requests.clock in
    record {
      told = told_push u.requests.entries new q.0 may.told;
      within = may.within;
      is_new = new_push u.requests.entries new p q refl apart may.is_new;
    }

mays_push : (u : UploadState) (p : Pair) (qs : List Pair) → AllByRecursion (λ (y : ℕ). eqb p.1 y ≡ false) (shares_of qs) → All (MayPlace u) qs → All (MayPlace (with_record u (asked_more p.0 (Allocation p.1 u.goal.share_length) u.requests))) qs
mays_push u p [] apart may = All-nil (MayPlace (with_record u (asked_more p.0 (Allocation p.1 u.goal.share_length) u.requests)))
mays_push u p (q ∷ qs) apart may =
    let new : UploadState = with_record u (asked_more p.0 (Allocation p.1 u.goal.share_length) u.requests) in
    All-cons (MayPlace new) q qs (may_push u p q apart.0 (All-head (MayPlace u) q qs may)) (mays_push u p qs apart.1 (All-tail (MayPlace u) q qs may))

-- room for pairs of distinct shares is asked for
course_pairs : (u : UploadState) (pairs : List Pair) → All (MayPlace u) pairs → IsDistinct eqb (shares_of pairs) → IsCourse u → IsCourse (with_record u (asked_all (allocations u.goal.share_length pairs) u.requests))
unfolding IsDistinct
course_pairs u [] may once c = c
course_pairs u (p ∷ ps) may once c =
    let ask : ℕ × Asked = (p.0, Allocation p.1 u.goal.share_length) in
    let new : UploadState = with_record u (asked_more ask.0 ask.1 u.requests) in
    let here = All-head (MayPlace u) p ps may in
    let good : MayAsk u ask = record {
      good = record { inside = (here.within, refl); share = refl };
      told = here.told;
      further = λ i a share e about has. absurd (here.is_new i a e (about.0, let one : Some p.1 ≡ Some share = has in about.1 ∙ sym one));
    } in
    course_pairs new ps (mays_push u p ps once.0 (All-tail (MayPlace u) p ps may)) once.1 (course_asked u ask good c)

kept_front : (P : ℕ → Type 0) (k : ℕ) (xs : List Pair) → AllByRecursion P (shares_of xs) → AllByRecursion P (shares_of (take k xs))
kept_front P zero xs all = tt
kept_front P (suc k) [] all = tt
kept_front P (suc k) (x ∷ xs) all = (all.0, kept_front P k xs all.1)

distinct_front : (k : ℕ) (xs : List Pair) → IsDistinct eqb (shares_of xs) → IsDistinct eqb (shares_of (take k xs))
unfolding IsDistinct
distinct_front zero xs d = tt
distinct_front (suc k) [] d = tt
distinct_front (suc k) (x ∷ xs) d = (kept_front (λ (y : ℕ). eqb x.1 y ≡ false) k xs d.0, distinct_front k xs d.1)

pub round_course : (u : UploadState) (pairs : List Pair) (k round : ℕ) (new : RequestsState) → round ≤ length u.requests.entries → new ≡ asked_all (allocations u.goal.share_length (take k pairs)) u.requests → All (MayPlace u) pairs → IsDistinct eqb (shares_of pairs) → IsCourse u → IsCourse (record u { requests = new; round = round })
round_course u pairs k round new le e may once c =
    let asks : List (ℕ × Asked) = allocations u.goal.share_length (take k pairs) in
    let t : IsCourse (with_record u new) = subst (λ (r : RequestsState). IsCourse (with_record u r)) (sym e) (course_pairs u (take k pairs) (All-take (MayPlace u) k pairs may) (distinct_front k pairs once) c) in
    record { few = t.few; some = t.some; long = t.long; distinct = t.distinct; inside = t.inside; of_told = t.of_told; waited = t.waited; trails = t.trails; begun = omega (arith, le, length_asked asks u.requests, ap (λ (r : RequestsState). length r.entries) e) }

pub plan_at : (ro ro2 w w2 : List ℕ) (held held2 : List Pair) (n n2 : ℕ) (m1 m2 m3 left : List Pair) (un : List ℕ) → ro ≡ ro2 → w ≡ w2 → held ≡ held2 → n ≡ n2 → IsPlan ro w held n m1 m2 m3 left un → IsPlan ro2 w2 held2 n2 m1 m2 m3 left un
plan_at ro ro2 w w2 held held2 n n2 m1 m2 m3 left un a b c d p =
    subst (λ (x : ℕ). IsPlan ro2 w2 held2 x m1 m2 m3 left un) d
    (subst (λ (x : List Pair). IsPlan ro2 w2 x n m1 m2 m3 left un) c
    (subst (λ (x : List ℕ). IsPlan ro2 x held n m1 m2 m3 left un) b
    (subst (λ (x : List ℕ). IsPlan x w held n m1 m2 m3 left un) a p)))

module _ (u : UploadState) (chosen : List Pair) (largest : IsLargestMatching (acked_pairs u.goal u.requests.entries) chosen) (reached : ℕ) (count : reached ≡ length chosen) where
  abbrev pub failed : Bool
  failed = has_failed_since u.goal u.round u.requests.entries

  pub to_place : (nat_lt reached u.happy && failed) ≡ true → IsToPlace u u.requests
  to_place again =
      let t = both (nat_lt reached u.happy) failed again in
      let less : reached < u.happy = ltb-true reached u.happy t.0 in
      inr ((λ enough. absurd (omega (arith, less, count, largest.largest enough.0 enough.1, enough.2))), t.1)

  pub not_to_place : 0 < u.round → (nat_lt reached u.happy && failed) ≡ false → IsToPlace u u.requests → ⊥
  not_to_place late e (inl first) = absurd (omega (arith, late, first))
  not_to_place late e (inr again) = by (nat_lt reached u.happy) refl e
    where
      by : (b : Bool) → nat_lt reached u.happy ≡ b → (b && failed) ≡ false → ⊥
      by true k h = true≢false (sym again.1 ∙ h)
      by false k h =
          let few : u.happy ≤ reached = ltb-false reached u.happy k in
          again.0 (chosen, largest.matching, omega (arith, few, count))

-- ---- what was lost

pub get_asked_all : (asks : List (ℕ × Asked)) (r : RequestsState) (p : ℕ) → p < length r.entries → slice_get (asked_all asks r).entries p ≡ slice_get r.entries p
get_asked_all [] r p lt = refl
get_asked_all (ask ∷ asks) r p lt =
    let new : RequestsState = asked_more ask.0 ask.1 r in
    let more : p < length new.entries = omega (arith, lt, length-append r.entries (first_request ask.0 ask.1 r.clock ∷ [])) in
    get_asked_all asks new p more ∙ get_push r.entries (first_request ask.0 ask.1 r.clock) p lt

pub followed_joined : (g : Goal) (xs ys : List ℕ) (r : RequestsState) → followed_all g (xs ++ ys) r ≡ followed_all g ys (followed_all g xs r)
followed_joined g [] ys r = refl
followed_joined g (x ∷ xs) ys r = followed_joined g xs ys (followed_at g x r)

-- one more of the lost requests is followed up
pub follow_more : (g : Goal) (r : RequestsState) (lost : List ℕ) (i : ℕ) → i < length lost → followed_at g (get_or lost i 0) (followed_all g (take i lost) r) ≡ followed_all g (take (i + 1) lost) r
follow_more g r lost i lt = sym (ap (λ (l : List ℕ). followed_all g l r) (take_more lost i 0 lt) ∙ followed_joined g (take i lost) (get_or lost i 0 ∷ []) r)

-- ---- the beginning

begun_from : (servers : List ℕ) (r : RequestsState) → (asked_all (asks_of servers) r).entries ≡ r.entries ++ map (λ (s : ℕ). first_request s Holdings r.clock) servers
begun_from [] r = sym (append-nil r.entries)
begun_from (s ∷ ss) r =
    begun_from ss (asked_more s Holdings r) ∙ append_assoc r.entries (first_request s Holdings r.clock ∷ []) (map (λ (q : ℕ). first_request q Holdings r.clock) ss)

abbrev asks_at : ℕ → List ℕ → List Request
asks_at now servers = map (λ (s : ℕ). first_request s Holdings now) servers

asked_begun : (now : ℕ) (servers : List ℕ) → asked_servers (asks_at now servers) ≡ servers
asked_begun now [] = refl
asked_begun now (s ∷ ss) = ap (λ (l : List ℕ). s ∷ l) (asked_begun now ss)

inside_begun : (g : Goal) (now : ℕ) (servers : List ℕ) → All (λ (r : Request). IsInside g r.asked) (asks_at now servers)
inside_begun g now [] = All-nil (λ (r : Request). IsInside g r.asked)
inside_begun g now (s ∷ ss) = All-cons (λ (r : Request). IsInside g r.asked) (first_request s Holdings now) (asks_at now ss) tt (inside_begun g now ss)

waited_begun : (now : ℕ) (servers : List ℕ) → All IsWaitedFor (asks_at now servers)
waited_begun now [] = All-nil IsWaitedFor
waited_begun now (s ∷ ss) = All-cons IsWaitedFor (first_request s Holdings now) (asks_at now ss) (λ t. refl) (waited_begun now ss)

of_told_begun : (es : List Request) (now : ℕ) (servers : List ℕ) → All (IsOfTold es) (asks_at now servers)
of_told_begun es now [] = All-nil (IsOfTold es)
of_told_begun es now (s ∷ ss) = All-cons (IsOfTold es) (first_request s Holdings now) (asks_at now ss) (inl refl) (of_told_begun es now ss)

-- no Ask is about a share
none_begun : (now : ℕ) (servers : List ℕ) (i : ℕ) (r : Request) → slice_get (asks_at now servers) i ≡ Some r → share_of r.asked ≡ None
none_begun now [] i r e = absurd cc
none_begun now (s ∷ ss) zero r e = let is : first_request s Holdings now ≡ r = cc in ap (λ (q : Request). share_of q.asked) (sym is)
none_begun now (s ∷ ss) (suc i) r e = none_begun now ss i r e

none_about : (now : ℕ) (servers : List ℕ) (i : ℕ) (r : Request) (pair : Pair) → slice_get (asks_at now servers) i ≡ Some r → IsAbout pair r → ⊥
none_about now servers i r pair e about = let none : None ≡ Some pair.1 = sym (none_begun now servers i r e) ∙ about.1 in absurd cc

trails_begun : (g : Goal) (now : ℕ) (servers : List ℕ) → AreTrails g (asks_at now servers)
trails_begun g now servers i j a b pair lt first second about next = absurd (none_about now servers i a pair first about)

pub failed_begun : (g : Goal) (session now : ℕ) (servers : List ℕ) → AreFailed g (begun servers session now).entries
failed_begun g session now servers i r e abort = absurd (by r.asked (none_begun now servers i r (sym (ap (λ (es : List Request). slice_get es i) (begun_from servers (fresh session now))) ∙ e)) abort)
  where
    by : (a : Asked) → share_of a ≡ None → is_abort a ≡ true → ⊥
    by (Aborting share) none h = cc
    by Holdings none h = true≢false (sym h)
    by (Allocation share len) none h = true≢false (sym h)
    by (Writing share offset len) none h = true≢false (sym h)
    by (Closing share) none h = true≢false (sym h)
    by (Reading share offset len) none h = true≢false (sym h)

pub followed_begun : (g : Goal) (session now : ℕ) (servers : List ℕ) → AreFollowed g (begun servers session now).entries
followed_begun g session now servers i r pair e about = absurd (none_about now servers i r pair (sym (ap (λ (es : List Request). slice_get es i) (begun_from servers (fresh session now))) ∙ e) about)

pub begun_course : (u : UploadState) (servers : List ℕ) (session now : ℕ) → u.requests ≡ begun servers session now → u.round ≡ 0 → length u.goal.digests ≤ 256 → 1 ≤ u.goal.ahead → 1 ≤ u.goal.share_length → IsDistinct eqb servers → IsCourse u
begun_course u servers session now e first few some long d =
    let is : u.requests.entries ≡ asks_at now servers = ap (λ (r : RequestsState). r.entries) e ∙ begun_from servers (fresh session now) in
    record {
      few = few;
      some = some;
      long = long;
      distinct = subst (IsDistinct eqb) (sym (ap asked_servers is ∙ asked_begun now servers)) d;
      inside = subst (All (λ (r : Request). IsInside u.goal r.asked)) (sym is) (inside_begun u.goal now servers);
      of_told = subst (All (IsOfTold u.requests.entries)) (sym is) (of_told_begun u.requests.entries now servers);
      waited = subst (All IsWaitedFor) (sym is) (waited_begun now servers);
      trails = subst (AreTrails u.goal) (sym is) (trails_begun u.goal now servers);
      begun = omega (arith, first);
    }

get_or-append_at : (before xs : List ℕ) (d : ℕ) → get_or (before ++ xs) (length before) d ≡ get_or xs 0 d
get_or-append_at [] xs d = refl
get_or-append_at (b ∷ bs) xs d = get_or-append_at bs xs d

-- all elements, by their positions
by_positions : (xs before : List ℕ) → map (λ (p : ℕ). get_or (before ++ xs) p 0) (range_with_len (length before) (length xs)) ≡ xs
by_positions [] before = refl
by_positions (x ∷ xs) before =
    let here : get_or (before ++ x ∷ xs) (length before) 0 ≡ x = get_or-append_at before (x ∷ xs) 0 in
    let len : length (before ++ x ∷ []) ≡ length before + 1 = length-append before (x ∷ []) in
    let shape : (before ++ x ∷ []) ++ xs ≡ before ++ x ∷ xs = append_assoc before (x ∷ []) xs in
    let rest : map (λ (p : ℕ). get_or (before ++ x ∷ xs) p 0) (range_with_len (length before + 1) (length xs)) ≡ xs =
    subst (λ (l : List ℕ). map (λ (p : ℕ). get_or l p 0) (range_with_len (length before + 1) (length xs)) ≡ xs) shape
    (subst (λ (k : ℕ). map (λ (p : ℕ). get_or ((before ++ x ∷ []) ++ xs) p 0) (range_with_len k (length xs)) ≡ xs) len (by_positions xs (before ++ x ∷ []))) in
    ap (λ (q : ℕ). q ∷ map (λ (p : ℕ). get_or (before ++ x ∷ xs) p 0) (range_with_len (length before + 1) (length xs))) here ∙ ap (λ (l : List ℕ). x ∷ l) rest

pub order_distinct : (index : List ℕ) (servers : List ServerInfo) (nodes : List ℕ) → AreInOrder index servers nodes → IsDistinct eqb (map (λ (s : ServerInfo). s.node) servers) → IsDistinct eqb nodes
order_distinct index servers nodes o d =
    let own : List ℕ = map (λ (s : ServerInfo). s.node) servers in
    let f : ℕ → ℕ = λ (p : ℕ). get_or own p 0 in
    let n : length own ≡ length servers = length-map servers (λ (s : ServerInfo). s.node) in
    let all : map f (range_with_len 0 (length servers)) ≡ own = subst (λ (k : ℕ). map f (range_with_len 0 k) ≡ own) n (by_positions own []) in
    let moved : IsPermutation own nodes = subst (IsPermutation own) (sym o.nodes_are) (subst (λ (l : List ℕ). IsPermutation l (map f o.positions)) all (IsPermutation-map f (range_with_len 0 (length servers)) o.positions o.all)) in
    IsDistinct-IsPermutation eqb nat_eq_equiv.symm own nodes moved d

pub nil_of : {X : Type 0} (xs : List X) → length xs ≡ 0 → xs ≡ []
nil_of [] e = refl
nil_of (x ∷ xs) e = absurd (omega (arith, e))

pub ticks_with : (v : UploadState) (r : RequestsState) (lost : List ℕ) (new : UploadState) → lost ≢ [] → GoesOn v (followed_all v.goal lost r) new → TicksWith lost r v new
ticks_with v r [] new some g = absurd (some refl)
ticks_with v r (p ∷ ps) new some g = g

pub map_twice : {A B C : Type 0} (f : B → C) (g : A → B) (xs : List A) → map f (map g xs) ≡ map (λ (x : A). f (g x)) xs
map_twice f g [] = refl
map_twice f g (x ∷ xs) = ap (λ l. f (g x) ∷ l) (map_twice f g xs)

pub if_ok : {X E : Type 0} (r : Result X E) (P Q : X → Type 0) → ((x : X) → P x → Q x) → IfOk r P → IfOk r Q
if_ok (Ok x) P Q f p = f x p
if_ok (Err e) P Q f p = p

pub taken_course : (u : UploadState) (o : Option ℕ) (new : RequestsState) → TakesNext u.requests o new → IsCourse u → IsCourse (with_record u new)
taken_course u o new t c = course_goes u new (subst (Goes u.requests.entries) (sym (sent_entries u.requests new o t)) (goes_refl u.requests.entries)) c
