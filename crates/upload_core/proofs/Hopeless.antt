-- Where an upload ends Unhappy, no placing would be enough.
use Rattle.std.proofs.Common.{◌≡◌, ℕ, suc, ◌<◌, inl, inr, Bool, true, false, not, List, [], ◌∷◌, ◌++◌, All, Contains, Some, length, map, filter, drop, eqb, refl, sym, ap, subst, ◌∙◌, arith, true≢false}
use Rattle.std.specs.Prelude.{slice_get}
use Rattle.std.specs.List.{IsDistinct, flat_map, list_any}
use Rattle.std.specs.Set.{is_member}
use Rattle.std.proofs.lemmas.Grind.{flat_map-append}
use Rattle.std.proofs.lemmas.List.Elements.{All-contains, Contains-append_cases, Contains-append_left, Contains-append_right}
use Rattle.std.proofs.lemmas.List.{append-nil}
use Rattle.lemmas.proofs.Ranges.{range_has}
use Rattle.lemmas.proofs.Bools.{not_both}
use Rattle.request_record.specs.declared.requests.Asked.TheVariants.{Allocation}
use Rattle.request_record.specs.declared.requests.Request.{Request}
use Rattle.request_record.specs.Record.{RequestsState}
use Rattle.placement.specs.Matching.{IsLargestMatching, IsMatching, Pair, shares_of}
use Rattle.placement.specs.Plan.{held_by, placeable, shares_below, without_shares}
use Rattle.placement.proofs.Best.{from_member, member_from, product_from, product_has}
use Rattle.placement.proofs.Members.{Contains-filter, Contains-nil, from_filter, from_member_map, member_map}
use Rattle.upload_core.specs.State.{Goal, UploadState, with_record}
use Rattle.upload_core.specs.Acknowledged.{acked_by, acked_pairs}
use Rattle.upload_core.specs.Transfers.{failed_servers, has_failed}
use Rattle.upload_core.specs.Rounds.{HasEnough, IsHopeless, IsOver, IsPlacing, IsSettled, IsUnhappy, Placing, answered_as, has_answered_as, has_failed_since, readonly_servers, transfers_of, writable_servers}
use Rattle.upload_core.specs.Course.{CanGoOn, IsOfRound, IsOfTold, IsRound, asked_servers}
use Rattle.upload_core.specs.Trails.{AreFollowed, by_answer, by_failure, by_waiting}
use Rattle.upload_core.proofs.Lists.{all_of, any_of, contains_at, from_flat, get_either, position_of, to_flat}
use Rattle.upload_core.proofs.Servers.{answered_ask}
use Rattle.upload_core.proofs.Acked.{outcome_acked}
use Rattle.upload_core.proofs.Counts.{quiet_of}
use Rattle.upload_core.proofs.Placings.{best_of}

-- ---- servers and pairs of a record, and of what came before

module _ (g : Goal) where
  failed_there : (es : List Request) (r : Request) → Contains es r → has_failed g r ≡ true → Contains (failed_servers g es) r.server
  failed_there es r c h = from_member (failed_servers g es) r.server (member_map (λ (y : Request). y.server) (filter (has_failed g) es) r (Contains-filter (has_failed g) es r c h))

  -- a writable server did not fail
  not_failed : (es : List Request) (s : ℕ) → Contains (writable_servers g es) s → Contains (failed_servers g es) s → ⊥
  not_failed es s w f =
      let k = from_filter (λ (y : ℕ). not (is_member eqb (failed_servers g es) y)) (answered_as false es) s w in
      not_both (is_member eqb (failed_servers g es) s) (member_from (failed_servers g es) s f) k.1

  module _ (before since : List Request) where
    acked_more : (q : Pair) → Contains (acked_pairs g before) q → Contains (acked_pairs g (before ++ since)) q
    acked_more q c = subst (λ (l : List Pair). Contains l q) (sym (flat_map-append (acked_by g) before since)) (Contains-append_left (acked_pairs g before) (acked_pairs g since) q c)

    failed_more : (s : ℕ) → Contains (failed_servers g before) s → Contains (failed_servers g (before ++ since)) s
    failed_more s c =
        let a = from_member_map (λ (y : Request). y.server) (filter (has_failed g) before) s (member_from (failed_servers g before) s c) in
        let f = from_filter (has_failed g) before a.0 a.1 in
        subst (Contains (failed_servers g (before ++ since))) a.2 (failed_there (before ++ since) a.0 (Contains-append_left before since a.0 f.0) f.1)

    module _ (of_it : (i : ℕ) (r : Request) → slice_get since i ≡ Some r → IsOfRound g before r) where
      -- no server became writable
      writable_fewer : (s : ℕ) → Contains (writable_servers g (before ++ since)) s → Contains (writable_servers g before) s
      writable_fewer s c =
          let es : List Request = before ++ since in
          let k = from_filter (λ (y : ℕ). not (is_member eqb (failed_servers g es) y)) (answered_as false es) s c in
          let a = from_member_map (λ (y : Request). y.server) (filter (has_answered_as false) es) s (member_from (answered_as false es) s k.0) in
          let f = from_filter (has_answered_as false) es a.0 a.1 in
          elim (Contains-append_cases before since a.0 f.0) [
            | inl front ↦ (
                let told : Contains (answered_as false before) s = subst (Contains (answered_as false before)) a.2 (from_member (answered_as false before) a.0.server (member_map (λ (y : Request). y.server) (filter (has_answered_as false) before) a.0 (Contains-filter (has_answered_as false) before a.0 front f.1))) in
                Contains-filter (λ (y : ℕ). not (is_member eqb (failed_servers g before) y)) (answered_as false before) s told (open_of (is_member eqb (failed_servers g before) s) (λ h. not_both (is_member eqb (failed_servers g es) s) (member_from (failed_servers g es) s (failed_more s (from_member (failed_servers g before) s h))) k.1)))
            | inr back ↦ (
                let at = position_of since a.0 back in
                absurd (true≢false (sym (answered_ask false a.0 f.1) ∙ (of_it at.0 a.0 at.1).1)))
          ]
        where
          open_of : (b : Bool) → (b ≡ true → ⊥) → not b ≡ true
          open_of true h = absurd (h refl)
          open_of false h = refl

      -- what is acknowledged could be placed before
      acked_placeable : (q : Pair) → Contains (acked_pairs g (before ++ since)) q → Contains (placeable (acked_pairs g before) (writable_servers g before) (length g.digests)) q
      acked_placeable q c =
          let n : ℕ = length g.digests in
          let grid : List Pair = flat_map (λ (s : ℕ). map (λ (h : ℕ). (s, h)) (shares_below n)) (writable_servers g before) in
          elim (Contains-append_cases (acked_pairs g before) (acked_pairs g since) q (subst (λ (l : List Pair). Contains l q) (flat_map-append (acked_by g) before since) c)) [
            | inl front ↦ Contains-append_left (acked_pairs g before) grid q front
            | inr back ↦ (
                let f = from_flat (acked_by g) since q back in
                let at = position_of since f.0 f.1 in
                let o = All-contains (λ (p : Pair). (p.0 ≡ f.0.server) × (p.1 < n)) (acked_by g f.0) q (outcome_acked g f.0.server f.0.asked f.0.outcome) f.2 in
                let server : Contains (writable_servers g before) q.0 = subst (Contains (writable_servers g before)) (sym o.0) (of_it at.0 f.0 at.1).0 in
                Contains-append_right (acked_pairs g before) grid q (product_has (writable_servers g before) (shares_below n) q.0 q.1 server (range_has 0 n q.1 (omega arith) (omega (arith, o.1)))))
          ]

      now_placeable : (q : Pair) → Contains (placeable (acked_pairs g (before ++ since)) (writable_servers g (before ++ since)) (length g.digests)) q → Contains (placeable (acked_pairs g before) (writable_servers g before) (length g.digests)) q
      now_placeable q c =
          let n : ℕ = length g.digests in
          let es : List Request = before ++ since in
          let grid : List ℕ → List Pair = λ servers. flat_map (λ (s : ℕ). map (λ (h : ℕ). (s, h)) (shares_below n)) servers in
          elim (Contains-append_cases (acked_pairs g es) (grid (writable_servers g es)) q c) [
            | inl held ↦ acked_placeable q held
            | inr new ↦ (
                let p = product_from (writable_servers g es) (shares_below n) q new in
                Contains-append_right (acked_pairs g before) (grid (writable_servers g before)) q (product_has (writable_servers g before) (shares_below n) q.0 q.1 (writable_fewer q.0 p.0) p.1))
          ]

      -- where each pair of the third matching is acknowledged
      all_acked : (happy reached : ℕ) (blocking : List ℕ) → IsUnhappy g happy (before ++ since) reached blocking → (p : Placing) (is : IsPlacing g before p)
          → IsLargestMatching (placeable (acked_pairs g before) (writable_servers g before) (length g.digests)) (is.m1 ++ is.m2 ++ p.m3)
          → ((q : Pair) → Contains p.m3 q → Contains (acked_pairs g (before ++ since)) q) → IsHopeless g happy (before ++ since)
      all_acked happy reached blocking unhappy p is best third pairs m =
          let n : ℕ = length g.digests in
          let es : List Request = before ++ since in
          let then : IsMatching (placeable (acked_pairs g before) (writable_servers g before) n) pairs = record {
            given = all_of (Contains (placeable (acked_pairs g before) (writable_servers g before) n)) pairs (λ q c. now_placeable q (All-contains (Contains (placeable (acked_pairs g es) (writable_servers g es) n)) pairs q m.given c));
            servers_once = m.servers_once;
            shares_once = m.shares_once;
          } in
          let own : IsMatching (acked_pairs g es) (is.m1 ++ is.m2 ++ p.m3) = record {
            given = all_of (Contains (acked_pairs g es)) (is.m1 ++ is.m2 ++ p.m3) given;
            servers_once = best.matching.servers_once;
            shares_once = best.matching.shares_once;
          } in
          omega (arith, best.largest pairs then, unhappy.happiness.largest.largest (is.m1 ++ is.m2 ++ p.m3) own, unhappy.reaches, unhappy.few)
        where
          first : (q : Pair) → Contains is.m1 q → Contains (acked_pairs g before) q
          first q c = (from_filter (λ (x : Pair). is_member eqb (readonly_servers g before) x.0) (acked_pairs g before) q (All-contains (Contains (held_by (readonly_servers g before) (acked_pairs g before))) is.m1 q is.plan.first_largest.matching.given c)).0

          second : (q : Pair) → Contains is.m2 q → Contains (acked_pairs g before) q
          second q c =
              let a = from_filter (λ (x : Pair). not (is_member eqb (shares_of is.m1) x.1)) (held_by (writable_servers g before) (acked_pairs g before)) q (All-contains (Contains (without_shares is.m1 (held_by (writable_servers g before) (acked_pairs g before)))) is.m2 q is.plan.second_largest.matching.given c) in
              (from_filter (λ (x : Pair). is_member eqb (writable_servers g before) x.0) (acked_pairs g before) q a.0).0

          given : (q : Pair) → Contains (is.m1 ++ is.m2 ++ p.m3) q → Contains (acked_pairs g (before ++ since)) q
          given q c = elim (Contains-append_cases (is.m1 ++ is.m2) p.m3 q c) [
            | inl front ↦ (elim (Contains-append_cases is.m1 is.m2 q front) [ inl a ↦ acked_more q (first q a) | inr b ↦ acked_more q (second q b) ])
            | inr back ↦ third q back
          ]

-- ---- the two ends

none_of : {X Y : Type 0} (f : X → Y) (xs : List X) (x : X) → map f xs ≡ [] → Contains xs x → ⊥
none_of f [] x e c = Contains-nil x c
none_of f (y ∷ ys) x e c = absurd cc

get_behind : {X : Type 0} (xs ys : List X) (i : ℕ) (y : X) → slice_get ys i ≡ Some y → (k : ℕ) × (slice_get (xs ++ ys) k ≡ Some y)
get_behind [] ys i y e = (i, e)
get_behind (x ∷ xs) ys i y e = let r = get_behind xs ys i y e in (suc r.0, r.1)

drop_front : (xs ys : List Request) → drop (length xs) (xs ++ ys) ≡ ys
drop_front [] ys = refl
drop_front (x ∷ xs) ys = drop_front xs ys

not_enough : (g : Goal) (happy : ℕ) (es : List Request) (reached : ℕ) (blocking : List ℕ) → IsUnhappy g happy es reached blocking → HasEnough g happy es → ⊥
not_enough g happy es reached blocking u enough = absurd (omega (arith, u.happiness.largest.largest enough.0 enough.1, u.reaches, u.few, enough.2))

module _ (g : Goal) (happy reached : ℕ) (blocking : List ℕ) where
  -- nothing is left to place
  nothing_left : (es : List Request) → IsDistinct eqb (asked_servers es) → All (IsOfTold es) es → (p : Placing) → IsPlacing g es p → transfers_of g p ≡ [] → IsUnhappy g happy es reached blocking → IsHopeless g happy es
  nothing_left es distinct told p is none unhappy =
      let same : es ++ [] ≡ es = append-nil es in
      subst (IsHopeless g happy) same
      (all_acked g es [] (λ i r e. absurd cc) happy reached blocking (subst (λ (l : List Request). IsUnhappy g happy l reached blocking) (sym same) unhappy) p is (best_of g es distinct told p is)
      (λ q c. absurd (none_of (λ (pair : Pair). (pair.0, Allocation pair.1 g.share_length)) (p.m3 ++ p.leftovers) q none (Contains-append_left p.m3 p.leftovers q c))))

  module _ (round : ℕ) (es : List Request) (k : IsRound g round es) (settled : IsSettled es) (followed : AreFollowed g es) (none : has_failed_since g round es ≡ true → ⊥) where
    abbrev all : List Request
    all = k.before ++ k.since

    since_is : drop round es ≡ k.since
    since_is = ap (λ (n : ℕ). drop n es) (sym k.at) ∙ ap (drop (length k.before)) k.parts ∙ drop_front k.before k.since

    -- the last placing was carried to its end
    carried_out : (q : Pair) → Contains k.placing.m3 q → Contains (acked_pairs g all) q
    carried_out q c =
        let t = k.begun q c in
        let at = get_behind k.before k.since t.0 t.1 t.2 in
        let server : Contains (writable_servers g k.before) q.0 = subst (Contains (writable_servers g k.before)) t.3.0 (k.of_it t.0 t.1 t.2).0 in
        elim (followed at.0 t.1 q (ap (λ (l : List Request). slice_get l at.0) k.parts ∙ at.1) t.3) [
          | by_failure j x e s h ↦ elim (get_either k.before k.since j x (sym (ap (λ (l : List Request). slice_get l j) k.parts) ∙ e)) [
            | inl front ↦ absurd (not_failed g k.before q.0 server (subst (Contains (failed_servers g k.before)) s (failed_there g k.before x (contains_at k.before j x front) h)))
            | inr back ↦ absurd (none (ap (list_any (has_failed g)) since_is ∙ any_of (has_failed g) k.since back.0 x back.1 h))
          ]
          | by_answer j x e d ↦ to_flat (acked_by g) all x q (contains_at all j x (sym (ap (λ (l : List Request). slice_get l j) k.parts) ∙ e)) d
          | by_waiting j x e a o w ↦ absurd (true≢false (sym w ∙ quiet_of es settled j x e))
        ]

    nothing_failed : IsUnhappy g happy es reached blocking → IsHopeless g happy es
    nothing_failed unhappy =
        subst (IsHopeless g happy) (sym k.parts)
        (all_acked g k.before k.since k.of_it happy reached blocking (subst (λ (l : List Request). IsUnhappy g happy l reached blocking) k.parts unhappy) k.placing k.is k.best carried_out)

-- an upload that is over and Unhappy
pub hopeless_end : (u : UploadState) (r : RequestsState) → IsDistinct eqb (asked_servers r.entries) → All (IsOfTold r.entries) r.entries → CanGoOn (with_record u r) → IsSettled r.entries → IsOver u r → (reached : ℕ) (blocking : List ℕ) → IsUnhappy u.goal u.happy r.entries reached blocking → IsHopeless u.goal u.happy r.entries
hopeless_end u r distinct told can settled over reached blocking unhappy = elim over [
  | inl done ↦ (elim can.rounds [
    | inl first ↦ absurd (done (inl first))
    | inr k ↦ nothing_failed u.goal u.happy reached blocking u.round r.entries k settled can.followed (λ failed. done (inr (not_enough u.goal u.happy r.entries reached blocking unhappy, failed))) unhappy
  ])
  | inr none ↦ nothing_left u.goal u.happy reached blocking r.entries distinct told none.0 none.1 none.2 unhappy
]
