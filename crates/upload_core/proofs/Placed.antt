-- What is placed: new shares of the goal, each once, on servers that answered.
use Rattle.std.proofs.Common.{◌≡◌, ℕ, ◌<◌, inl, inr, Bool, true, false, not, List, [], ◌∷◌, ◌++◌, All, Contains, length, take, filter, eqb, refl, sym, subst, ◌∙◌, arith, true≢false}
use Rattle.std.specs.List.{IsDistinct}
use Rattle.std.specs.Set.{is_member}
use Rattle.std.proofs.lemmas.List.{map-append}
use Rattle.std.proofs.lemmas.List.Elements.{All-cons, Contains-append_cases, Contains-append_right, Contains-append_left}
use Rattle.std.proofs.lemmas.List.FromFn.{length-range_with_len, get_or-range_with_len}
use Rattle.lemmas.proofs.Members.{distinct_kept}
use Rattle.lemmas.proofs.Bools.{not_both}
use Rattle.request_record.specs.declared.requests.Request.{Request}
use Rattle.placement.specs.Matching.{IsMatching, Pair, servers_of, shares_of}
use Rattle.placement.specs.Plan.{IsLeastLoaded, IsPlan, Spreads, held_by, remaining, shares_below, spare, unused, without_shares}
use Rattle.placement.proofs.Best.{distinct_append, each_absent, from_member, has_share, member_from, range_distinct, range_from, share_pair, zip_from, zip_shares_once}
use Rattle.placement.proofs.Members.{Contains-filter, Contains-nil, from_filter, member_map}
use Rattle.upload_core.specs.State.{UploadState}
use Rattle.upload_core.specs.Acknowledged.{acked_by, acked_pairs}
use Rattle.upload_core.specs.Transfers.{failed_servers, has_failed}
use Rattle.upload_core.specs.Rounds.{IsSettled, answered_as, readonly_servers, writable_servers}
use Rattle.upload_core.specs.Course.{MayPlace}
use Rattle.upload_core.specs.Trails.{AreFollowed, IsNew, by_answer, by_failure, by_waiting}
use Rattle.upload_core.proofs.Lists.{all_of, contains_at, position_of, to_flat}
use Rattle.upload_core.proofs.Counts.{quiet_of}
use Rattle.upload_core.proofs.Servers.{writable_told}

pub below_all : (n : ℕ) → All (λ (h : ℕ). h < n) (shares_below n)
below_all n k d lt =
    let l : k < n = omega (arith, lt, length-range_with_len 0 n) in
    let at = get_or-range_with_len 0 n k d l in
    omega (arith, at, l)

not_true : (b : Bool) → (b ≡ true → ⊥) → not b ≡ true
not_true true h = absurd (h refl)
not_true false h = refl

false_of : (b : Bool) → not b ≡ true → b ≡ true → ⊥
false_of b h k = not_both b k h

-- the pairs that are spread
spread_from : (w : List ℕ) (assigned : List Pair) (shares : List ℕ) (leftovers : List Pair) (unplaced : List ℕ) → Spreads w assigned shares leftovers unplaced → (q : Pair) → Contains leftovers q → Contains w q.0 × Contains shares q.1
spread_from [] assigned shares leftovers unplaced s q c = absurd (Contains-nil q (subst (λ (l : List Pair). Contains l q) s.0 c))
spread_from (x ∷ xs) assigned shares leftovers unplaced s q c =
    let at = position_of leftovers q c in
    let l : IsLeastLoaded (x ∷ xs) (assigned ++ take at.0 leftovers) q.0 = s.0.least at.0 q.0 q.1 at.1 in (
      contains_at (x ∷ xs) l.position q.0 l.is,
      subst (λ (hs : List ℕ). Contains hs q.1) s.0.each (has_share leftovers q c),
    )

spread_once : (w : List ℕ) (assigned : List Pair) (shares : List ℕ) (leftovers : List Pair) (unplaced : List ℕ) → Spreads w assigned shares leftovers unplaced → IsDistinct eqb shares → IsDistinct eqb (shares_of leftovers)
unfolding IsDistinct
spread_once [] assigned shares leftovers unplaced s d = subst (λ (l : List Pair). IsDistinct eqb (shares_of l)) (sym s.0) tt
spread_once (x ∷ xs) assigned shares leftovers unplaced s d = subst (IsDistinct eqb) (sym s.0.each) d

-- one pair more before a matching
matching_more : (pairs chosen : List Pair) (q : Pair) → IsMatching pairs chosen → Contains pairs q → (Contains (servers_of chosen) q.0 → ⊥) → (Contains (shares_of chosen) q.1 → ⊥) → IsMatching pairs (q ∷ chosen)
unfolding IsDistinct
matching_more pairs chosen q m c server share = record {
  given = All-cons (Contains pairs) q chosen c m.given;
  servers_once = (each_absent q.0 (servers_of chosen) server, m.servers_once);
  shares_once = (each_absent q.1 (shares_of chosen) share, m.shares_once);
}

shares_within : (few many : List Pair) → ((x : Pair) → Contains few x → Contains many x) → (h : ℕ) → Contains (shares_of few) h → Contains (shares_of many) h
shares_within few many more h d =
    let q = share_pair few h d in
    subst (Contains (shares_of many)) q.2 (has_share many q.0 (more q.0 q.1))

module _ (u : UploadState) (m1 m2 m3 leftovers : List Pair) (unplaced : List ℕ) (p : IsPlan (readonly_servers u.goal u.requests.entries) (writable_servers u.goal u.requests.entries) (acked_pairs u.goal u.requests.entries) (length u.goal.digests) m1 m2 m3 leftovers unplaced) where
  abbrev es : List Request
  es = u.requests.entries

  abbrev n : ℕ
  n = length u.goal.digests

  abbrev writable : List ℕ
  writable = writable_servers u.goal es

  abbrev held : List Pair
  held = acked_pairs u.goal es

  -- a pair to be transferred: of a writable server, and not acknowledged
  pub record IsToDo (q : Pair) : Type 0 where
    pub server : Contains writable q.0
    pub share : q.1 < n
    pub unheld : Contains held q → ⊥

  below : (h : ℕ) → Contains (shares_below n) h → h < n
  below h c = let r = range_from 0 n h c in omega (arith, r.1)

  third : (q : Pair) → Contains m3 q → IsToDo q
  third q c =
      let z = zip_from (unused m2 writable) (remaining m1 m2 n) q (subst (λ (l : List Pair). Contains l q) p.third_paired c) in
      let s = from_filter (λ (x : ℕ). not (is_member eqb (servers_of m2) x)) writable q.0 z.0 in
      let h = from_filter (λ (x : ℕ). not (is_member eqb (shares_of (m1 ++ m2)) x)) (shares_below n) q.1 z.1 in
      let in-two : (pairs : List Pair) → ((x : Pair) → Contains pairs x → Contains (m1 ++ m2) x) → Contains (shares_of pairs) q.1 → ⊥ = λ pairs more d.
      false_of (is_member eqb (shares_of (m1 ++ m2)) q.1) h.1 (member_from (shares_of (m1 ++ m2)) q.1 (shares_within pairs (m1 ++ m2) more q.1 d)) in
      record {
        server = s.0;
        share = below q.1 h.0;
        unheld = λ d.
            let by-server : Contains (held_by writable held) q = Contains-filter (λ (x : Pair). is_member eqb writable x.0) held q d (member_from writable q.0 s.0) in
            let given : Contains (without_shares m1 (held_by writable held)) q = Contains-filter (λ (x : Pair). not (is_member eqb (shares_of m1) x.1)) (held_by writable held) q by-server (not_true (is_member eqb (shares_of m1) q.1) (λ e. in-two m1 (λ x k. Contains-append_left m1 m2 x k) (from_member (shares_of m1) q.1 e))) in
            let larger = matching_more (without_shares m1 (held_by writable held)) m2 q p.second_largest.matching given (λ k. false_of (is_member eqb (servers_of m2) q.0) s.1 (member_from (servers_of m2) q.0 k)) (λ k. in-two m2 (λ x l. Contains-append_right m1 m2 x l) k) in
            absurd (omega (arith, p.second_largest.largest (q ∷ m2) larger));
      }

  rest : (q : Pair) → Contains leftovers q → IsToDo q
  rest q c =
      let z = spread_from writable (m2 ++ m3) (spare m1 m2 m3 held n) leftovers unplaced p.rest_spread q c in
      let h = from_filter (λ (x : ℕ). not (is_member eqb (shares_of (m1 ++ m2 ++ m3 ++ held)) x)) (shares_below n) q.1 z.1 in
      record {
        server = z.0;
        share = below q.1 h.0;
        unheld = λ d. false_of (is_member eqb (shares_of (m1 ++ m2 ++ m3 ++ held)) q.1) h.1 (member_from (shares_of (m1 ++ m2 ++ m3 ++ held)) q.1 (has_share (m1 ++ m2 ++ m3 ++ held) q (Contains-append_right (m1 ++ m2 ++ m3) held q d)));
      }

  pub to_do : (q : Pair) → Contains (m3 ++ leftovers) q → IsToDo q
  to_do q c = elim (Contains-append_cases m3 leftovers q c) [ inl front ↦ third q front | inr back ↦ rest q back ]

  -- no share is there twice
  pub placed_once : IsDistinct eqb (shares_of (m3 ++ leftovers))
  placed_once =
      subst (IsDistinct eqb) (sym (map-append (λ (x : Pair). x.1) m3 leftovers))
      (distinct_append (shares_of m3) (shares_of leftovers)
      (subst (λ (l : List Pair). IsDistinct eqb (shares_of l)) (sym p.third_paired) (zip_shares_once (unused m2 writable) (remaining m1 m2 n) (distinct_kept (λ (h : ℕ). not (is_member eqb (shares_of (m1 ++ m2)) h)) (shares_below n) (range_distinct 0 n))))
      (spread_once writable (m2 ++ m3) (spare m1 m2 m3 held n) leftovers unplaced p.rest_spread (distinct_kept (λ (h : ℕ). not (is_member eqb (shares_of (m1 ++ m2 ++ m3 ++ held)) h)) (shares_below n) (range_distinct 0 n)))
      apart)
    where
      apart : (h : ℕ) → Contains (shares_of m3) h → Contains (shares_of leftovers) h → ⊥
      apart h c d =
          let q = share_pair leftovers h d in
          let t = share_pair m3 h c in
          let z = spread_from writable (m2 ++ m3) (spare m1 m2 m3 held n) leftovers unplaced p.rest_spread q.0 q.1 in
          let f = from_filter (λ (x : ℕ). not (is_member eqb (shares_of (m1 ++ m2 ++ m3 ++ held)) x)) (shares_below n) q.0.1 z.1 in
          let in-all : Contains (m1 ++ m2 ++ m3 ++ held) t.0 = Contains-append_left (m1 ++ m2 ++ m3) held t.0 (Contains-append_right (m1 ++ m2) m3 t.0 t.1) in
          let has : Contains (shares_of (m1 ++ m2 ++ m3 ++ held)) q.0.1 = subst (Contains (shares_of (m1 ++ m2 ++ m3 ++ held))) (t.2 ∙ sym q.2) (has_share (m1 ++ m2 ++ m3 ++ held) t.0 in-all) in
          false_of (is_member eqb (shares_of (m1 ++ m2 ++ m3 ++ held)) q.0.1) f.1 (member_from (shares_of (m1 ++ m2 ++ m3 ++ held)) q.0.1 has)

  -- in a settled record what is to be done was not asked
  is_new : IsSettled es → AreFollowed u.goal es → (q : Pair) → IsToDo q → IsNew es q
  is_new settled followed q t i r e about = elim (followed i r q e about) [
    | by_failure j x at s h ↦ (
        let one : Contains (failed_servers u.goal es) x.server = from_member (failed_servers u.goal es) x.server (member_map (λ (y : Request). y.server) (filter (has_failed u.goal) es) x (Contains-filter (has_failed u.goal) es x (contains_at es j x at) h)) in
        let w = from_filter (λ (y : ℕ). not (is_member eqb (failed_servers u.goal es) y)) (answered_as false es) q.0 t.server in
        false_of (is_member eqb (failed_servers u.goal es) q.0) w.1 (member_from (failed_servers u.goal es) q.0 (subst (Contains (failed_servers u.goal es)) s one)))
    | by_answer j x at c ↦ t.unheld (to_flat (acked_by u.goal) es x q (contains_at es j x at) c)
    | by_waiting j x at a k o ↦ true≢false (sym o ∙ quiet_of es settled j x at)
  ]

  pub plan_may : IsSettled es → AreFollowed u.goal es → All (MayPlace u) (m3 ++ leftovers)
  plan_may settled followed = all_of (MayPlace u) (m3 ++ leftovers) each
    where
      each : (q : Pair) → Contains (m3 ++ leftovers) q → MayPlace u q
      each q c =
          let t = to_do q c in
          record {
            told = writable_told u.goal es q.0 (member_from writable q.0 t.server);
            within = t.share;
            is_new = is_new settled followed q t;
          }
