-- Nodes of a tree go with what is known of it.
use Rattle.std.proofs.Common.{◌≡◌, ◌≢◌, ◌⊎◌, ℕ, zero, suc, ◌+◌, ◌*◌, ◌<◌, ◌≤◌, List, [], ◌∷◌, length, Option, Some, inl, inr, ap, refl, sym, subst, ◌∙◌, arith}
use Rattle.std.specs.Prelude.{slice_get}
use Rattle.std.proofs.lemmas.Bool.{cases_eq}
use Rattle.std.proofs.lemmas.Nat.{pow_pos}
use Rattle.merkle.specs.Inputs.{AreHashes}
use Rattle.merkle.specs.Offers.{AreOfTree, AreWithSiblings, IsThere, OwnNodesAreConsistent}
use Rattle.merkle.specs.OneTree.{KnowsTree}
use Rattle.merkle.specs.Partial.{IsExtended, IsJoined, IsTouched, Known, PartialState, ancestor, known_at, parent}
use Rattle.merkle.specs.Tree.{height, node_count}
use Rattle.merkle.proofs.OwnNodes.{own_node, own_parent}

-- ---- is a node offered, or above one that is?

ancestor_next : (rows number : ℕ) → ancestor (suc rows) number ≡ ancestor rows (parent number)
ancestor_next zero number = refl
ancestor_next (suc rows) number = ap parent (ancestor_next rows number)

ancestor_root : (rows : ℕ) → ancestor rows 0 ≡ 0
ancestor_root zero = refl
ancestor_root (suc rows) = ap parent (ancestor_root rows)

pub ancestor_low : (rows number : ℕ) → ancestor rows number ≤ number
ancestor_low zero number = omega arith
ancestor_low (suc rows) number = let low = ancestor_low rows number in omega (arith, low)

abbrev IsAbove : ℕ → ℕ → Type 0
IsAbove below number = (rows : ℕ) × (ancestor rows below ≡ number)

is_above : (fuel below number : ℕ) → below < fuel → IsAbove below number ⊎ (IsAbove below number → ⊥)
is_above zero below number low = absurd (omega (arith, low))
is_above (suc fuel) below number low = elim (cases_eq below number) [
  | inl same ↦ inl (0, same)
  | inr other ↦ elim (cases_eq below 0) [
    | inl top ↦ inr (λ a. other (top ∙ sym (ancestor_root a.0) ∙ ap (ancestor a.0) (sym top) ∙ a.1))
    | inr some ↦ elim (is_above fuel (parent below) number (omega (arith, low, some))) [
      | inl up ↦ inl (suc up.0, ancestor_next up.0 below ∙ up.1)
      | inr none ↦ inr (λ a. none (above_parent below number a.0 a.1 other))
    ]
  ]
] where
  above_parent : (below number rows : ℕ) → ancestor rows below ≡ number → below ≢ number → IsAbove (parent below) number
  above_parent below number zero e other = absurd (other e)
  above_parent below number (suc rows) e other = (rows, sym (ancestor_next rows below) ∙ e)

touched_first : (number : ℕ) (offer : ℕ × List ℕ) (offers : List (ℕ × List ℕ)) → IsAbove offer.0 number → IsTouched (offer ∷ offers) number
touched_first number offer offers a = record { position = 0; below = offer.0; hash = offer.1; rows = a.0; offered = refl; above = a.1 }

touched_rest : (number : ℕ) (offer : ℕ × List ℕ) (offers : List (ℕ × List ℕ)) → IsTouched offers number → IsTouched (offer ∷ offers) number
touched_rest number offer offers t = record { position = suc t.position; below = t.below; hash = t.hash; rows = t.rows; offered = t.offered; above = t.above }

same_offer : (offer : ℕ × List ℕ) (below : ℕ) (hash : List ℕ) → Some offer ≡ Some (below, hash) → offer.0 ≡ below
same_offer offer below hash e = cc

touched_where : (number : ℕ) (offer : ℕ × List ℕ) (offers : List (ℕ × List ℕ)) (position below : ℕ) (hash : List ℕ) (rows : ℕ) → slice_get (offer ∷ offers) position ≡ Some (below, hash)
    → ancestor rows below ≡ number → IsAbove offer.0 number ⊎ IsTouched offers number
touched_where number offer offers zero below hash rows at e = inl (rows, ap (ancestor rows) (same_offer offer below hash at) ∙ e)
touched_where number offer offers (suc position) below hash rows at e = inr (record { position = position; below = below; hash = hash; rows = rows; offered = at; above = e })

abbrev no_offers : List (ℕ × List ℕ)
no_offers = []

nothing_there : (position : ℕ) (offer : ℕ × List ℕ) → slice_get no_offers position ≡ Some offer → ⊥
nothing_there zero offer e = cc
nothing_there (suc position) offer e = cc

pub is_touched : (offers : List (ℕ × List ℕ)) (number : ℕ) → IsTouched offers number ⊎ (IsTouched offers number → ⊥)
is_touched [] number = inr (λ t. nothing_there t.position (t.below, t.hash) t.offered)
is_touched (offer ∷ offers) number = elim (is_above (suc offer.0) offer.0 number (omega arith)) [
  | inl up ↦ inl (touched_first number offer offers up)
  | inr none ↦ elim (is_touched offers number) [
    | inl t ↦ inl (touched_rest number offer offers t)
    | inr missing ↦ inr (λ t. elim (touched_where number offer offers t.position t.below t.hash t.rows t.offered t.above) [ inl up ↦ none up | inr rest ↦ missing rest ])
  ]
]

-- ---- the nodes of a tree are taken

abbrev touched_or : {A B : Type 0} → List ℕ → Option (List ℕ) → A ⊎ B → Option (List ℕ)
touched_or own old (inl a) = Some own
touched_or own old (inr b) = old

touched_or_left : {A B : Type 0} (own : List ℕ) (old : Option (List ℕ)) (s : A ⊎ B) → A → (A → B → ⊥) → touched_or own old s ≡ Some own
touched_or_left own old (inl a) here never = refl
touched_or_left own old (inr b) here never = absurd (never here b)

touched_or_right : {A B : Type 0} (own : List ℕ) (old : Option (List ℕ)) (s : A ⊎ B) → (A → ⊥) → touched_or own old s ≡ old
touched_or_right own old (inl a) never = absurd (never a)
touched_or_right own old (inr b) never = refl

module _ (p : PartialState) (leaves : List (List ℕ)) (offers : List (ℕ × List ℕ)) (count : p.leaf_count ≡ length leaves) (are : AreHashes leaves)
    (known : KnowsTree p leaves) (own : AreOfTree leaves offers) (with_siblings : AreWithSiblings p offers) where
  -- what is known then
  abbrev pub taken : Known
  taken number = touched_or (own_node leaves number) (known_at p number) (is_touched offers number)

  taken_touched : (number : ℕ) → IsTouched offers number → taken number ≡ Some (own_node leaves number)
  taken_touched number t = touched_or_left (own_node leaves number) (known_at p number) (is_touched offers number) t (λ a b. b a)

  taken_other : (number : ℕ) → (IsTouched offers number → ⊥) → taken number ≡ known_at p number
  taken_other number none = touched_or_right (own_node leaves number) (known_at p number) (is_touched offers number) none

  taken_kept : (number : ℕ) (hash : List ℕ) → known_at p number ≡ Some hash → taken number ≡ Some hash
  taken_kept number hash knows = elim (is_touched offers number) [
    | inl t ↦ taken_touched number t ∙ ap Some (sym (known number hash knows))
    | inr none ↦ taken_other number none ∙ knows
  ]

  taken_there : (number : ℕ) → IsThere p offers number → taken number ≡ Some (own_node leaves number)
  taken_there number (inl t) = taken_touched number t
  taken_there number (inr k) = taken_kept number k.0 k.1 ∙ ap Some (known number k.0 k.1)

  touched_inside : (number : ℕ) → IsTouched offers number → number < node_count (length leaves)
  touched_inside number t = let below = (own t.position t.below t.hash t.offered).0 in let low = ancestor_low t.rows t.below in let is = t.above in omega (arith, below, low, is)

  parent_touched : (number : ℕ) → IsTouched offers number → IsTouched offers (parent number)
  parent_touched number t = record { position = t.position; below = t.below; hash = t.hash; rows = suc t.rows; offered = t.offered; above = ap parent t.above }

  taken_joined : (number : ℕ) → IsTouched offers number → 0 < number → IsJoined taken number
  taken_joined number t some =
      let up : ℕ = parent number in
      let inside = touched_inside number t in
      let mine = own_parent leaves are up (omega (arith, inside, some, pow_pos (height (length leaves)))) in
      let both = with_siblings number t some in
      record {
        left = own_node leaves (2 * up + 1);
        right = own_node leaves (2 * up + 2);
        knows_left = taken_there (2 * up + 1) both.0;
        knows_right = taken_there (2 * up + 2) both.1;
        knows_parent = taken_touched up (parent_touched number t) ∙ ap Some mine.hash;
      }

  pub taken_is_extended : IsExtended p.leaf_count (known_at p) offers taken
  taken_is_extended = record {
    inside = λ k number hash e. subst (λ (n : ℕ). number < node_count n) (sym count) (own k number hash e).0;
    kept = taken_kept;
    offered = λ k number hash e. taken_touched number (record { position = k; below = number; hash = hash; rows = 0; offered = e; above = refl }) ∙ ap Some (sym (own k number hash e).1);
    joined = taken_joined;
    others = taken_other;
  }

-- nodes of a tree, each with its sibling, are not refused where what is known are nodes of that tree
pub own_nodes_are_consistent : OwnNodesAreConsistent
own_nodes_are_consistent p leaves offers count are known own with_siblings refused =
    refused (taken p leaves offers count are known own with_siblings) (taken_is_extended p leaves offers count are known own with_siblings)
