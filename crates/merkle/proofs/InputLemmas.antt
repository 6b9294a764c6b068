-- Without a clash one path alone leads from a position to a root, and to the root of a tree leads the leaf that stands there.
use Rattle.std.proofs.Common.{◌≡◌, ℕ, zero, suc, ◌+◌, ◌-◌, ◌^◌, ◌<◌, ◌≤◌, List, [], ◌∷◌, ◌++◌, length, inl, inr, slice_index_or, Contains, ap, refl, sym, subst, ◌∙◌, arith}
use Rattle.std.specs.Prelude.{decimal, take, drop}
use Rattle.std.proofs.lemmas.Bool.{cases_lt}
use Rattle.std.proofs.lemmas.List.{append_assoc, append_cancel_left, take_at, get_or-drop, get_or-take, length-drop, length-take-le}
use Rattle.std.proofs.lemmas.List.Elements.{All-drop, All-take, Contains-append_left, Contains-append_right}
use Rattle.lemmas.proofs.Numbers.{lt_false}
use Rattle.tagged_hash.specs.Tag.{tag_text}
use Rattle.tagged_hash.specs.TaggedHash.{netstring, node_hash, pair_input}
use Rattle.tagged_hash.specs.declared.tag.Tag.TheVariants.{TreeNode}
use Rattle.tagged_hash.proofs.HashLemmas.{length-double_sha256}
use Rattle.merkle.proofs.HeightLemmas.{lt_true}
use Rattle.merkle.specs.Path.{path_root}
use Rattle.merkle.specs.Tree.{root}
use Rattle.tagged_hash.specs.Clash.{HasNoClashIn}
use Rattle.merkle.specs.Inputs.{AreAmong, AreHashes, IsPathAmong, LeafAgrees, PathsAgree, path_inputs, root_inputs}

-- members of lists
pub member_here : (x : List ℕ) (xs : List (List ℕ)) → Contains (x ∷ xs) x
member_here x xs = (0, omega arith, refl)

pub member_there : (x y : List ℕ) (xs : List (List ℕ)) → Contains xs y → Contains (x ∷ xs) y
member_there x y xs c = (suc c.0, omega (arith, c.1), c.2)

-- ---- the input of a pair tells the two hashes

net_form : (bytes rest : List ℕ) → netstring bytes ++ rest ≡ decimal (length bytes) ++ (58 ∷ (bytes ++ (44 ∷ rest)))
net_form bytes rest = simp append_assoc

same_tail : (xs ys : List ℕ) → 58 ∷ xs ≡ 58 ∷ ys → xs ≡ ys
same_tail xs ys e = cc

net_same : (a b x y : List ℕ) → length a ≡ 32 → length b ≡ 32 → netstring a ++ x ≡ netstring b ++ y → a ≡ b
net_same a b x y la lb e =
    let lens : decimal (length a) ≡ decimal (length b) = ap decimal (la ∙ sym lb) in
    let g : decimal (length b) ++ (58 ∷ (a ++ (44 ∷ x))) ≡ decimal (length b) ++ (58 ∷ (b ++ (44 ∷ y))) =
    ap (λ (d : List ℕ). d ++ (58 ∷ (a ++ (44 ∷ x)))) (sym lens) ∙ sym (net_form a x) ∙ e ∙ net_form b y in
    let tails : a ++ (44 ∷ x) ≡ b ++ (44 ∷ y) = same_tail _ _ (append_cancel_left (decimal (length b)) _ _ g) in
    sym (take_at a (44 ∷ x) 32 la) ∙ ap (take 32) tails ∙ take_at b (44 ∷ y) 32 lb

nets_same : (a b x y : List ℕ) → length a ≡ 32 → length b ≡ 32 → length x ≡ 32 → length y ≡ 32
    → netstring a ++ netstring x ≡ netstring b ++ netstring y → (a ≡ b) × (x ≡ y)
nets_same a b x y la lb lx ly e =
    let same : a ≡ b = net_same a b (netstring x) (netstring y) la lb e in
    let g : netstring b ++ netstring x ≡ netstring b ++ netstring y = ap (λ (z : List ℕ). netstring z ++ netstring x) (sym same) ∙ e in
    let h : netstring x ++ [] ≡ netstring y ++ [] = ap (λ (z : List ℕ). z ++ []) (append_cancel_left (netstring b) _ _ g) in
    (same, net_same x y [] [] lx ly h)

pub pair_same : (a b x y : List ℕ) → length a ≡ 32 → length b ≡ 32 → length x ≡ 32 → length y ≡ 32
    → pair_input TreeNode a x ≡ pair_input TreeNode b y → (a ≡ b) × (x ≡ y)
pair_same a b x y la lb lx ly e =
    let tag : List ℕ = netstring (tag_text TreeNode) in
    nets_same a b x y la lb lx ly (append_cancel_left tag _ _ (sym (append_assoc tag (netstring a) (netstring x)) ∙ e ∙ append_assoc tag (netstring b) (netstring y)))

-- ---- halves

pub root_left : (m position : ℕ) (h : List ℕ) (s : List (List ℕ)) → position < 2 ^ m
    → path_root (suc m) position h s ≡ node_hash (path_root m position h s) (slice_index_or s m [])
root_left m position h s low = rw (lt_true position (2 ^ m) low) refl

pub root_right : (m position : ℕ) (h : List ℕ) (s : List (List ℕ)) → 2 ^ m ≤ position
    → path_root (suc m) position h s ≡ node_hash (slice_index_or s m []) (path_root m (position - 2 ^ m) h s)
root_right m position h s high = rw (lt_false position (2 ^ m) high) refl

pub inputs_left : (m position : ℕ) (h : List ℕ) (s : List (List ℕ)) → position < 2 ^ m
    → path_inputs (suc m) position h s ≡ pair_input TreeNode (path_root m position h s) (slice_index_or s m []) ∷ path_inputs m position h s
inputs_left m position h s low = rw (lt_true position (2 ^ m) low) refl

pub inputs_right : (m position : ℕ) (h : List ℕ) (s : List (List ℕ)) → 2 ^ m ≤ position
    → path_inputs (suc m) position h s ≡ pair_input TreeNode (slice_index_or s m []) (path_root m (position - 2 ^ m) h s) ∷ path_inputs m (position - 2 ^ m) h s
inputs_right m position h s high = rw (lt_false position (2 ^ m) high) refl

-- a root that a hash leads to is one
root_long : (m position : ℕ) (h : List ℕ) (s : List (List ℕ)) → length h ≡ 32 → length (path_root m position h s) ≡ 32
root_long zero position h s long = long
root_long (suc m) position h s long =
    elim (cases_lt position (2 ^ m)) [
      | inl low ↦ ap length (root_left m position h s low) ∙ length-double_sha256 _
      | inr high ↦ ap length (root_right m position h s high) ∙ length-double_sha256 _
    ]

-- ---- one path

-- all of these are of a kind
abbrev pub AreOf : (List ℕ → Type 0) → List (List ℕ) → Type 0
AreOf IsOne these = (input : List ℕ) → Contains these input → IsOne input

pub head_of : (IsOne : List ℕ → Type 0) (x : List ℕ) (xs : List (List ℕ)) → AreOf IsOne (x ∷ xs) → IsOne x
head_of IsOne x xs all = all x (member_here x xs)

pub tail_of : (IsOne : List ℕ → Type 0) (x : List ℕ) (xs : List (List ℕ)) → AreOf IsOne (x ∷ xs) → AreOf IsOne xs
tail_of IsOne x xs all = λ y c. all y (member_there x y xs c)

-- a path of hashes, all that is hashed on it of a kind
pub record IsPathOf (IsOne : List ℕ → Type 0) (m position : ℕ) (hash : List ℕ) (siblings : List (List ℕ)) : Type 0 where
  pub hash_length : length hash ≡ 32
  pub sibling_lengths : (i : ℕ) → i < m → length (slice_index_or siblings i []) ≡ 32
  pub among : AreOf IsOne (path_inputs m position hash siblings)

-- two paths are one: their hashes, and their siblings
pub record AreOnePath (m : ℕ) (first second : List ℕ) (these those : List (List ℕ)) : Type 0 where
  pub hash : first ≡ second
  pub siblings : (i : ℕ) → i < m → slice_index_or these i [] ≡ slice_index_or those i []

one_more : (m : ℕ) (first second : List ℕ) (these those : List (List ℕ)) → AreOnePath m first second these those
    → slice_index_or these m [] ≡ slice_index_or those m [] → AreOnePath (suc m) first second these those
one_more m first second these those one e = record {
  hash = one.hash;
  siblings = λ i low. elim (cases_lt i m) [
    | inl less ↦ one.siblings i less
    | inr high ↦ let last : i ≡ m = omega (arith, low, high) in
        ap (λ (n : ℕ). slice_index_or these n []) last ∙ e ∙ ap (λ (n : ℕ). slice_index_or those n []) (sym last)
  ];
}

-- without a clash one path alone leads from a position to a root
pub one_path : (IsOne : List ℕ → Type 0) → HasNoClashIn IsOne → (m position : ℕ) (first second : List ℕ) (these those : List (List ℕ))
    → IsPathOf IsOne m position first these → IsPathOf IsOne m position second those
    → path_root m position first these ≡ path_root m position second those → AreOnePath m first second these those
one_path IsOne no_clash zero position first second these those p q e = record { hash = e; siblings = λ i low. absurd (omega (arith, low)) }
one_path IsOne no_clash (suc m) position first second these those p q e =
    let fewer : (i : ℕ) → i < m → i < suc m = λ i low. omega (arith, low) in
    elim (cases_lt position (2 ^ m)) [
      | inl low ↦
          let mine = subst (AreOf IsOne) (inputs_left m position first these low) p.among in
          let yours = subst (AreOf IsOne) (inputs_left m position second those low) q.among in
          let hashes = sym (root_left m position first these low) ∙ e ∙ root_left m position second those low in
          let one = no_clash _ _ (head_of IsOne _ _ mine) (head_of IsOne _ _ yours) hashes in
          let below = pair_same _ _ _ _ (root_long m position first these p.hash_length) (root_long m position second those q.hash_length)
          (p.sibling_lengths m (omega arith)) (q.sibling_lengths m (omega arith)) one in
          one_more m first second these those (one_path IsOne no_clash m position first second these those
          record { hash_length = p.hash_length; sibling_lengths = λ i l. p.sibling_lengths i (fewer i l); among = tail_of IsOne _ _ mine }
          record { hash_length = q.hash_length; sibling_lengths = λ i l. q.sibling_lengths i (fewer i l); among = tail_of IsOne _ _ yours } below.0) below.1
      | inr high ↦
          let mine = subst (AreOf IsOne) (inputs_right m position first these high) p.among in
          let yours = subst (AreOf IsOne) (inputs_right m position second those high) q.among in
          let hashes = sym (root_right m position first these high) ∙ e ∙ root_right m position second those high in
          let one = no_clash _ _ (head_of IsOne _ _ mine) (head_of IsOne _ _ yours) hashes in
          let below = pair_same _ _ _ _ (p.sibling_lengths m (omega arith)) (q.sibling_lengths m (omega arith))
          (root_long m (position - 2 ^ m) first these p.hash_length) (root_long m (position - 2 ^ m) second those q.hash_length) one in
          one_more m first second these those (one_path IsOne no_clash m (position - 2 ^ m) first second these those
          record { hash_length = p.hash_length; sibling_lengths = λ i l. p.sibling_lengths i (fewer i l); among = tail_of IsOne _ _ mine }
          record { hash_length = q.hash_length; sibling_lengths = λ i l. q.sibling_lengths i (fewer i l); among = tail_of IsOne _ _ yours } below.1) below.0
    ]

-- where the kind is that of a list
pub path_of : (inputs : List (List ℕ)) (m position : ℕ) (hash : List ℕ) (siblings : List (List ℕ)) → IsPathAmong inputs m position hash siblings
    → IsPathOf (Contains inputs) m position hash siblings
path_of inputs m position hash siblings p = record { hash_length = p.hash_length; sibling_lengths = p.sibling_lengths; among = p.among }

pub paths_agree : PathsAgree
paths_agree inputs no_clash m position first second these those p q e =
    (one_path (Contains inputs) no_clash m position first second these those (path_of inputs m position first these p) (path_of inputs m position second those q) e).hash

-- ---- a tree's own leaf

pub tree_long : (m : ℕ) (hashes : List (List ℕ)) → length hashes ≡ 2 ^ m → AreHashes hashes → length (root m hashes) ≡ 32
tree_long zero hashes full are = are 0 [] (omega (arith, full))
tree_long (suc m) hashes full are = length-double_sha256 _

pub leaf_agrees : LeafAgrees
leaf_agrees inputs no_clash zero position hashes hash siblings low full are among p e =
    let first : 0 ≡ position = omega (arith, low) in
    sym e ∙ ap (λ (n : ℕ). slice_index_or hashes n []) first
leaf_agrees inputs no_clash (suc m) position hashes hash siblings low full are among p e =
    let fewer : (i : ℕ) → i < m → i < suc m = λ i l. omega (arith, l) in
    let twice : 2 ^ suc m ≡ 2 ^ m + 2 ^ m = omega arith in
    let front : length (take (2 ^ m) hashes) ≡ 2 ^ m = length-take-le (2 ^ m) hashes (omega (arith, full, twice)) in
    let back : length (drop (2 ^ m) hashes) ≡ 2 ^ m = omega (arith, length-drop (2 ^ m) hashes, full, twice) in
    let are_front : AreHashes (take (2 ^ m) hashes) = All-take (λ (h : List ℕ). length h ≡ 32) (2 ^ m) hashes are in
    let are_back : AreHashes (drop (2 ^ m) hashes) = All-drop (λ (h : List ℕ). length h ≡ 32) (2 ^ m) hashes are in
    let below : AreAmong inputs (root_inputs m (take (2 ^ m) hashes) ++ root_inputs m (drop (2 ^ m) hashes)) = tail_of (Contains inputs) _ _ among in
    elim (cases_lt position (2 ^ m)) [
      | inl left ↦
          let mine = subst (AreAmong inputs) (inputs_left m position hash siblings left) p.among in
          let one = no_clash _ _ (head_of (Contains inputs) _ _ among) (head_of (Contains inputs) _ _ mine) (e ∙ root_left m position hash siblings left) in
          let same = pair_same _ _ _ _ (tree_long m (take (2 ^ m) hashes) front are_front) (root_long m position hash siblings p.hash_length)
          (tree_long m (drop (2 ^ m) hashes) back are_back) (p.sibling_lengths m (omega arith)) one in
          leaf_agrees inputs no_clash m position (take (2 ^ m) hashes) hash siblings left front are_front
          (λ x c. below x (Contains-append_left (root_inputs m (take (2 ^ m) hashes)) (root_inputs m (drop (2 ^ m) hashes)) x c))
          record { hash_length = p.hash_length; sibling_lengths = λ i l. p.sibling_lengths i (fewer i l); among = tail_of (Contains inputs) _ _ mine } same.0
          ∙ get_or-take (2 ^ m) hashes position [] left
      | inr right ↦
          let mine = subst (AreAmong inputs) (inputs_right m position hash siblings right) p.among in
          let one = no_clash _ _ (head_of (Contains inputs) _ _ among) (head_of (Contains inputs) _ _ mine) (e ∙ root_right m position hash siblings right) in
          let same = pair_same _ _ _ _ (tree_long m (take (2 ^ m) hashes) front are_front) (p.sibling_lengths m (omega arith))
          (tree_long m (drop (2 ^ m) hashes) back are_back) (root_long m (position - 2 ^ m) hash siblings p.hash_length) one in
          let again : 2 ^ m + (position - 2 ^ m) ≡ position = omega (arith, right) in
          leaf_agrees inputs no_clash m (position - 2 ^ m) (drop (2 ^ m) hashes) hash siblings (omega (arith, low, right, twice)) back are_back
          (λ x c. below x (Contains-append_right (root_inputs m (take (2 ^ m) hashes)) (root_inputs m (drop (2 ^ m) hashes)) x c))
          record { hash_length = p.hash_length; sibling_lengths = λ i l. p.sibling_lengths i (fewer i l); among = tail_of (Contains inputs) _ _ mine } same.1
          ∙ get_or-drop (2 ^ m) hashes (position - 2 ^ m) [] ∙ ap (λ (n : ℕ). slice_index_or hashes n []) again
    ]
