-- The last placing, as the record goes on.
use Rattle.std.proofs.Common.{◌≡◌, ℕ, zero, suc, inl, inr, Bool, true, false, ◌&&◌, ◌||◌, List, [], ◌∷◌, ◌++◌, All, Contains, Some, length, map, filter, get_or, eqb, refl, sym, ap, subst, ◌∙◌, true≢false}
use Rattle.std.specs.Prelude.{slice_get}
use Rattle.std.specs.List.{IsDistinct, zip}
use Rattle.std.proofs.lemmas.List.{append_assoc, append-nil, map-append}
use Rattle.std.proofs.lemmas.List.Elements.{filter-append}
use Rattle.std.proofs.lemmas.List.Folds.{list_any-append}
use Rattle.std.proofs.lemmas.Option.{get_or_from_slice_get, slice_get-get_or, slice_get_within}
use Rattle.wire.specs.declared.message.Message.{Message}
use Rattle.request_record.specs.declared.requests.Asked.{Asked}
use Rattle.request_record.specs.declared.requests.Asked.TheVariants.{Allocation}
use Rattle.request_record.specs.declared.requests.Request.{Request}
use Rattle.request_record.specs.Record.{RequestsState, asked_all, counts_at, first_request, is_outstanding}
use Rattle.request_record.specs.Asking.{after_message, after_tick, lost_by_tick}
use Rattle.request_record.proofs.RecordLaws.{counts_is}
use Rattle.placement.specs.Matching.{IsLargestMatching, Pair}
use Rattle.placement.specs.Plan.{placeable, shares_below, unused}
use Rattle.placement.proofs.Best.{best_placing}
use Rattle.placement.proofs.Members.{untaken-append}
use Rattle.upload_core.specs.State.{Goal, UploadState, with_record}
use Rattle.upload_core.specs.Acknowledged.{acked_pairs}
use Rattle.upload_core.specs.Rounds.{IsPlacing, IsSettled, Placing, readonly_servers, writable_servers}
use Rattle.upload_core.specs.Moves.{follow_ups_of, followed_all, followed_at}
use Rattle.upload_core.specs.Course.{HasTrail, IsInside, IsOfRound, IsOfTold, IsRound, allocations, asked_servers, has_told, is_holdings, is_told}
use Rattle.upload_core.specs.Trails.{share_of}
use Rattle.upload_core.proofs.Lists.{contains_at, get_either, get_front, get_mapped, position_of}
use Rattle.upload_core.proofs.Follow.{follow_onward, given_onward}
use Rattle.upload_core.proofs.Records.{Goes, becomes_goes, was_goes}
use Rattle.upload_core.proofs.Servers.{servers_distinct}
use Rattle.upload_core.proofs.Acked.{acked_known}
use Rattle.upload_core.proofs.Goes.{message_goes, tick_goes}
use Rattle.upload_core.proofs.Counts.{quiet_of}
use Rattle.upload_core.proofs.Followed.{asked_from, entries_all, inside_at, new_of}
use Rattle.upload_core.proofs.Ends.{losses_add, lost_are, lost_waits}
use Rattle.upload_core.proofs.Placed.{to_do}

-- a plan's three matchings are best
pub best_of : (g : Goal) (es : List Request) → IsDistinct eqb (asked_servers es) → All (IsOfTold es) es → (p : Placing) (is : IsPlacing g es p) → IsLargestMatching (placeable (acked_pairs g es) (writable_servers g es) (length g.digests)) (is.m1 ++ is.m2 ++ p.m3)
best_of g es distinct told p is =
    best_placing (readonly_servers g es) (writable_servers g es) (acked_pairs g es) (length g.digests) (servers_distinct g es distinct) (acked_known g es told) is.m1 is.m2 is.plan.first_largest is.plan.second_largest.matching p.m3
    (is.plan.third_paired ∙ ap (zip (unused is.m2 (writable_servers g es))) (untaken-append is.m1 is.m2 (shares_below (length g.digests))))

-- what was settled stays in front
record Splits (before since ns : List Request) : Type 0 where
  pub rest : List Request
  pub parts : ns ≡ before ++ rest
  pub goes : Goes since rest

goes_split : (before since ns : List Request) → ((i : ℕ) (r : Request) → slice_get before i ≡ Some r → is_outstanding r.outcome ≡ false) → Goes (before ++ since) ns → Splits before since ns
goes_split [] since ns quiet k = record { rest = ns; parts = refl; goes = k }
goes_split (b ∷ bs) since [] quiet k = absurd k
goes_split (b ∷ bs) since (n ∷ ns) quiet k =
    let s = goes_split bs since ns (λ i r e. quiet (suc i) r e) k.1 in
    let same : n ≡ b = k.0.still (quiet 0 b refl) in
    record { rest = s.rest; parts = ap (λ (l : List Request). n ∷ l) s.parts ∙ ap (λ (x : Request). x ∷ (bs ++ s.rest)) same; goes = s.goes }

module _ (g : Goal) (round : ℕ) (es : List Request) (k : IsRound g round es) where
  -- what waits is of the round
  pub waiting_of_it : (i : ℕ) (r : Request) → slice_get es i ≡ Some r → is_outstanding r.outcome ≡ true → IsOfRound g k.before r
  waiting_of_it i r e waits = elim (get_either k.before k.since i r (sym (ap (λ (l : List Request). slice_get l i) k.parts) ∙ e)) [
    | inl front ↦ absurd (true≢false (sym waits ∙ quiet_of k.before k.settled i r front))
    | inr back ↦ k.of_it back.0 r back.1
  ]

  -- the record goes on, and more of the round is asked
  pub round_step : (ns : List Request) → Goes es ns → (more : List Request) → ((i : ℕ) (r : Request) → slice_get more i ≡ Some r → IsOfRound g k.before r) → IsRound g round (ns ++ more)
  round_step ns goes more of_it =
      let s = goes_split k.before k.since ns (quiet_of k.before k.settled) (subst (λ (l : List Request). Goes l ns) k.parts goes) in
      record {
        before = k.before;
        since = s.rest ++ more;
        parts = ap (λ (l : List Request). l ++ more) s.parts ∙ append_assoc k.before s.rest more;
        at = k.at;
        settled = k.settled;
        placing = k.placing;
        is = k.is;
        best = k.best;
        begun = λ pair c.
            let t = k.begun pair c in
            let b = becomes_goes k.since s.rest s.goes t.0 t.1 t.2 in
            (t.0, b.request, get_front s.rest more t.0 b.request b.there, (b.same.server ∙ t.3.0, ap share_of b.same.asked ∙ t.3.1));
        of_it = λ i r e. elim (get_either s.rest more i r e) [
          | inl front ↦ (
              let w = was_goes k.since s.rest s.goes i r front in
              let h = k.of_it i w.request w.there in
              (subst (Contains (writable_servers g k.before)) (sym w.same.server) h.0, ap is_holdings w.same.asked ∙ h.1))
          | inr new ↦ of_it new.0 r new.1
        ];
      }

-- ---- what follows

module _ (g : Goal) (round : ℕ) where
  -- what follows a request that waited is of the round
  next_of_it : (before : List Request) (now : ℕ) (asked next : Request) (ask : ℕ × Asked) → IsOfRound g before asked → asked.server ≡ ask.0 → is_holdings ask.1 ≡ false → new_of now ask ≡ next → IsOfRound g before next
  next_of_it before now asked next ask of_it server share is =
      subst (IsOfRound g before) is (subst (Contains (writable_servers g before)) server of_it.0, share)

  pub round_message : (from : ℕ) (m : Message) (now : ℕ) (r : RequestsState) (position : ℕ) → counts_at from m r ≡ Some position → All (λ (q : Request). IsInside g q.asked) r.entries → IsRound g round r.entries
      → IsRound g round (followed_at g position (after_message from m now r)).entries
  round_message from m now r position counts inside k =
      let after : RequestsState = after_message from m now r in
      let asks : List (ℕ × Asked) = follow_ups_of g after.entries (slice_get after.entries position) in
      subst (IsRound g round) (sym (entries_all asks after)) (round_step g round r.entries k after.entries (message_goes from m now r) (map (new_of after.clock) asks) (λ i q e.
      let a = counts_is from m r position counts in
      let n = get_mapped (new_of after.clock) asks i q e in
      let by = asked_from g after.entries (slice_get after.entries position) n.0 (contains_at asks i n.0 n.1) in
      let w = was_goes r.entries after.entries (message_goes from m now r) position by.0 by.1 in
      let one : Some a.request ≡ Some w.request = sym a.there ∙ w.there in
      let same : a.request ≡ w.request = cc in
      let within : IsInside g by.0.asked = subst (IsInside g) (sym w.same.asked) (inside_at g r.entries position w.request inside w.there) in
      next_of_it k.before after.clock a.request q n.0 (waiting_of_it g round r.entries k position a.request a.there a.waits) (ap (λ (x : Request). x.server) same ∙ sym w.same.server ∙ by.3) (follow_onward g after.entries by.0 n.0.1 within by.2).good.share n.2))

  pub round_tick : (now : ℕ) (r : RequestsState) → All (λ (q : Request). IsInside g q.asked) r.entries → IsRound g round r.entries
      → IsRound g round (followed_all g (lost_by_tick now r) (after_tick now r)).entries
  round_tick now r inside k =
      let after : RequestsState = after_tick now r in
      let lost : List ℕ = lost_by_tick now r in
      let add = losses_add g lost after (lost_are now r) in
      let asks : List (ℕ × Asked) = add.asks in
      subst (IsRound g round) (sym (ap (λ (x : RequestsState). x.entries) add.is ∙ entries_all asks after)) (round_step g round r.entries k after.entries (tick_goes now r) (map (new_of after.clock) asks) (λ i q e.
      let n = get_mapped (new_of after.clock) asks i q e in
      let a = add.each n.0 (contains_at asks i n.0 n.1) in
      let w = was_goes r.entries after.entries (tick_goes now r) a.position a.request a.there in
      let waits : is_outstanding w.request.outcome ≡ true = lost_waits now r a.position w.request a.among w.there in
      let within : IsInside g a.request.asked = subst (IsInside g) {x = w.request.asked} (sym w.same.asked) (inside_at g r.entries a.position w.request inside w.there) in
      let server : w.request.server ≡ n.0.0 = ◌∙◌ {a = w.request.server} (sym w.same.server) a.server in
      next_of_it k.before after.clock w.request q n.0 (waiting_of_it g round r.entries k a.position w.request w.there waits) server (given_onward g a.request.asked n.0.1 within a.given).good.share n.2))

-- ---- a new placing

no_asks : (now len : ℕ) (pairs : List Pair) → asked_servers (map (new_of now) (allocations len pairs)) ≡ []
no_asks now len [] = refl
no_asks now len (p ∷ ps) = no_asks now len ps

none_told : (now len s : ℕ) (pairs : List Pair) → is_told (map (new_of now) (allocations len pairs)) s ≡ false
none_told now len s [] = refl
none_told now len s (p ∷ ps) = none_told now len s ps

asked_both : (xs ys : List Request) → asked_servers (xs ++ ys) ≡ asked_servers xs ++ asked_servers ys
asked_both xs ys =
    let test : Request → Bool = λ (r : Request). is_holdings r.asked in
    ap (map (λ (r : Request). r.server)) (filter-append test xs ys) ∙ map-append (λ (r : Request). r.server) (filter test xs) (filter test ys)

or_false : (a b : Bool) → b ≡ false → (a || b) ≡ true → a ≡ true
or_false true b e h = refl
or_false false b e h = absurd (true≢false (sym h ∙ e))

-- what the record told before the transfers of a placing began
told_before : (es : List Request) (now len : ℕ) (pairs : List Pair) → All (IsOfTold (es ++ map (new_of now) (allocations len pairs))) (es ++ map (new_of now) (allocations len pairs)) → All (IsOfTold es) es
told_before es now len pairs all i d lt =
    let more : List Request = map (new_of now) (allocations len pairs) in
    let r : Request = get_or es i d in
    let there : slice_get (es ++ more) i ≡ Some r = get_front es more i r (slice_get-get_or es i d lt) in
    let told : IsOfTold (es ++ more) r = subst (IsOfTold (es ++ more)) (get_or_from_slice_get (es ++ more) i r r there) (all i r (slice_get_within (es ++ more) i r there)) in
    elim told [
      | inl h ↦ inl h
      | inr t ↦ inr (or_false (is_told es r.server) (is_told more r.server) (none_told now len r.server pairs) (sym (list_any-append (λ (q : Request). has_told q && eqb r.server q.server) es more) ∙ t))
    ]

pub round_placed : (u : UploadState) (r : RequestsState) (p : Placing) → IsSettled r.entries → IsPlacing u.goal r.entries p
    → IsDistinct eqb (asked_servers (asked_all (allocations u.goal.share_length (p.m3 ++ p.leftovers)) r).entries)
    → All (IsOfTold (asked_all (allocations u.goal.share_length (p.m3 ++ p.leftovers)) r).entries) (asked_all (allocations u.goal.share_length (p.m3 ++ p.leftovers)) r).entries
    → IsRound u.goal (length r.entries) (asked_all (allocations u.goal.share_length (p.m3 ++ p.leftovers)) r).entries
round_placed u r p settled is once of_told =
    let len : ℕ = u.goal.share_length in
    let pairs : List Pair = p.m3 ++ p.leftovers in
    let asks : List (ℕ × Asked) = allocations len pairs in
    let more : List Request = map (new_of r.clock) asks in
    let all : (asked_all asks r).entries ≡ r.entries ++ more = entries_all asks r in
    let servers : asked_servers (asked_all asks r).entries ≡ asked_servers r.entries = ap asked_servers all ∙ asked_both r.entries more ∙ ap (λ (l : List ℕ). asked_servers r.entries ++ l) (no_asks r.clock len pairs) ∙ append-nil (asked_servers r.entries) in
    let distinct : IsDistinct eqb (asked_servers r.entries) = subst (IsDistinct eqb) servers once in
    let told : All (IsOfTold r.entries) r.entries = told_before r.entries r.clock len pairs (subst (λ (es : List Request). All (IsOfTold es) es) all of_told) in
    record {
      before = r.entries;
      since = more;
      parts = all;
      at = refl;
      settled = settled;
      placing = p;
      is = is;
      best = best_of u.goal r.entries distinct told p is;
      begun = λ pair d. begun len p pair d;
      of_it = λ i q e.
          let n = get_mapped (new_of r.clock) asks i q e in
          let a = get_mapped (λ (x : Pair). (x.0, Allocation x.1 len)) pairs i n.0 n.1 in
          let new : new_of r.clock (a.0.0, Allocation a.0.1 len) ≡ q = ap (new_of r.clock) a.2 ∙ n.2 in
          let t = to_do (with_record u r) is.m1 is.m2 p.m3 p.leftovers is.unplaced is.plan a.0 (contains_at pairs i a.0 a.1) in
          subst (IsOfRound u.goal r.entries) new (t.server, refl);
    }
  where
    get_map : (len : ℕ) (pairs : List Pair) (i : ℕ) (pair : Pair) → slice_get pairs i ≡ Some pair → slice_get (map (new_of r.clock) (allocations len pairs)) i ≡ Some (first_request pair.0 (Allocation pair.1 len) r.clock)
    get_map len [] i pair e = absurd cc
    get_map len (x ∷ xs) zero pair e = let same : x ≡ pair = cc in ap (λ (y : Pair). Some (first_request y.0 (Allocation y.1 len) r.clock)) same
    get_map len (x ∷ xs) (suc i) pair e = get_map len xs i pair e

    begun : (len : ℕ) (p : Placing) (pair : Pair) → Contains p.m3 pair → HasTrail (map (new_of r.clock) (allocations len (p.m3 ++ p.leftovers))) pair
    begun len p pair c =
        let at = position_of p.m3 pair c in
        (at.0, first_request pair.0 (Allocation pair.1 len) r.clock, get_map len (p.m3 ++ p.leftovers) at.0 pair (get_front p.m3 p.leftovers at.0 pair at.1), (refl, refl))
