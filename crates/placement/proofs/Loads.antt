-- How many shares each server has, and the server with the fewest.
use Rattle.std.proofs.Common.{◌≡◌, ℕ, zero, suc, ◌+◌, ◌<◌, ◌≤◌, false, cond, ◌⊎◌, inl, inr, List, [], ◌∷◌, ◌++◌, Some, All, length, map, get_or, take, slice_get, eqb, eq-eqb, refl, sym, ap, subst, ◌∙◌, arith}
use Rattle.std.proofs.Math.ListN.{set}
use Rattle.std.proofs.Math.Nat.{add-zero}
use Rattle.std.proofs.lemmas.List.Sums.{sum_by_push}
use Rattle.std.proofs.lemmas.List.{map_push, take-append-le, take_at, get_or-map, length-map}
use Rattle.std.specs.Cmp.{nat_eq_equiv}
use Rattle.std.specs.List.{IsDistinct, AllByRecursion}
use Rattle.placement.specs.Matching.{Pair}
use Rattle.placement.specs.Plan.{load_of, IsLeastLoaded, IsSpread}

pub at_position : (xs : List ℕ) (i : ℕ) → i < length xs → slice_get xs i ≡ Some (get_or xs i 0)
at_position [] i l = absurd (omega arith)
at_position (x ∷ xs) zero l = refl
at_position (x ∷ xs) (suc i) l = at_position xs i (omega arith)

-- the position of the least load is that of the server with the fewest shares
module _ (servers : List ℕ) (assigned : List Pair) (loads : List ℕ) (is : loads ≡ map (load_of assigned) servers) (position : ℕ) (within : position < length loads) where
  load_at : (i : ℕ) → i < length servers → get_or loads i 0 ≡ load_of assigned (get_or servers i 0)
  load_at i l = ap (λ ls. get_or ls i 0) is ∙ get_or-map (load_of assigned) servers i 0 0 l

  as_many : length loads ≡ length servers
  as_many = ap length is ∙ length-map servers (load_of assigned)

  pub least_loaded : All (λ load. get_or loads position 0 ≤ load) loads → ((i : ℕ) → i < position → get_or loads position 0 < get_or loads i 0) → IsLeastLoaded servers assigned (get_or servers position 0)
  least_loaded least first = record {
    position = position;
    is = at_position servers position (omega (arith, as_many));
    least = λ i l. let here = load_at position (omega (arith, as_many)) in let there = load_at i l in let le = least i 0 (omega (arith, as_many)) in omega arith;
    first = λ i l. let here = load_at position (omega (arith, as_many)) in let there = load_at i (omega (arith, as_many)) in let lt = first i l in omega arith;
  }

-- ---- one more share for a server

load_push : (assigned : List Pair) (p : Pair) (server : ℕ) → load_of (assigned ++ p ∷ []) server ≡ load_of assigned server + cond (eqb p.0 server) 1 0
load_push assigned p server = sum_by_push (λ (q : Pair). cond (eqb q.0 server) 1 0) assigned p

module _ (assigned : List Pair) (server share : ℕ) where
  -- no other server's load changes
  loads_same : (others : List ℕ) → AllByRecursion (λ other. eqb server other ≡ false) others → map (load_of (assigned ++ (server, share) ∷ [])) others ≡ map (load_of assigned) others
  loads_same [] apart = refl
  loads_same (x ∷ xs) apart = λ j. (load_push assigned (server, share) x ∙ ap (λ b. load_of assigned x + cond b 1 0) apart.0 ∙ add-zero (load_of assigned x)) j ∷ loads_same xs apart.1 j

  apart_at : (x : ℕ) (xs : List ℕ) (position : ℕ) → AllByRecursion (λ other. eqb x other ≡ false) xs → slice_get xs position ≡ Some server → eqb server x ≡ false
  apart_at x [] position apart at = absurd (cc)
  apart_at x (y ∷ ys) zero apart at = let same : y ≡ server = cc in subst (λ v. eqb v x ≡ false) same (nat_eq_equiv.symm y x ∙ apart.0)
  apart_at x (y ∷ ys) (suc position) apart at = apart_at x ys position apart.1 at

  pub loads_push : (servers : List ℕ) (position : ℕ) → IsDistinct eqb servers → slice_get servers position ≡ Some server
      → map (load_of (assigned ++ (server, share) ∷ [])) servers ≡ set (map (load_of assigned) servers) position (load_of assigned server + 1)
  unfolding IsDistinct
  loads_push [] position distinct at = absurd (cc)
  loads_push (x ∷ xs) zero distinct at =
      let same : x ≡ server = cc in
      let apart = subst (λ v. AllByRecursion (λ other. eqb v other ≡ false) xs) same distinct.0 in
      let more = load_push assigned (server, share) x ∙ ap (λ b. load_of assigned x + cond b 1 0) (eq-eqb server x (sym same)) ∙ ap (λ v. load_of assigned v + 1) same in
      λ j. more j ∷ loads_same xs apart j
  loads_push (x ∷ xs) (suc position) distinct at =
      let apart = apart_at x xs position distinct.0 at in
      λ j. (load_push assigned (server, share) x ∙ ap (λ b. load_of assigned x + cond b 1 0) apart ∙ add-zero (load_of assigned x)) j ∷ loads_push xs position distinct.1 at j

-- ---- one share after the other

get_push : (ls : List Pair) (x : Pair) (k : ℕ) (v : Pair) → slice_get (ls ++ x ∷ []) k ≡ Some v → ((slice_get ls k ≡ Some v) × (k < length ls)) ⊎ ((k ≡ length ls) × (x ≡ v))
get_push [] x zero v e = inr (refl, cc)
get_push [] x (suc k) v e = absurd (cc)
get_push (y ∷ ys) x zero v e = inl (e, omega arith)
get_push (y ∷ ys) x (suc k) v e =
    elim (get_push ys x k v e) [
      | inl p ↦ inl (p.0, omega (arith, p.1))
      | inr p ↦ inr (ap suc p.0, p.1)
    ]

pub spread_start : (servers : List ℕ) (assigned : List Pair) → IsSpread servers assigned [] []
spread_start servers assigned = record { each = refl; least = λ k s h e. absurd (cc) }

pub spread_more : (servers : List ℕ) (assigned : List Pair) (shares : List ℕ) (ls : List Pair) (server share : ℕ) → IsSpread servers assigned shares ls → IsLeastLoaded servers (assigned ++ ls) server → IsSpread servers assigned (shares ++ share ∷ []) (ls ++ (server, share) ∷ [])
spread_more servers assigned shares ls server share x here = record {
  each = map_push (λ (p : Pair). p.1) ls (server, share) ∙ ap (λ l. l ++ share ∷ []) x.each;
  least = λ k s h e. elim (get_push ls (server, share) k (s, h) e) [
    | inl p ↦ subst (λ l. IsLeastLoaded servers (assigned ++ l) s) (sym (take-append-le k ls ((server, share) ∷ []) (omega (arith, p.1)))) (x.least k s h p.0)
    | inr p ↦ (
        let front : take k (ls ++ (server, share) ∷ []) ≡ ls = take_at ls ((server, share) ∷ []) k (sym p.0) in
        let same : server ≡ s = ap (λ (q : Pair). q.0) p.1 in
        subst (λ l. IsLeastLoaded servers (assigned ++ l) s) (sym front) (subst (IsLeastLoaded servers (assigned ++ ls)) same here)
        )
  ];
}
