-- Without a clash a root has one tree.
use Rattle.std.proofs.Common.{◌≡◌, ℕ, zero, suc, ◌+◌, ◌-◌, ◌^◌, ◌≤◌, List, [], ◌++◌, length, map, take, drop, get_or, Contains, ap, sym, subst, ◌∙◌, arith}
use Rattle.std.specs.List.{range_with_len}
use Rattle.std.proofs.lemmas.List.{ext_get_or, length-drop, length-take-le, take-append-drop}
use Rattle.std.proofs.lemmas.List.Elements.{All-append, All-drop, All-map, All-take, Contains-append_left, Contains-append_right}
use Rattle.tagged_hash.specs.Clash.{HasNoClash}
use Rattle.tagged_hash.proofs.HashLemmas.{length-double_sha256}
use Rattle.tagged_hash.specs.TaggedHash.{empty_leaf_hash}
use Rattle.merkle.specs.Inputs.{AreAmong, AreHashes, root_inputs}
use Rattle.merkle.specs.Tree.{height, padded_to, root, tree_root}
use Rattle.merkle.proofs.HeightLemmas.{height_room}
use Rattle.merkle.proofs.InputLemmas.{head_of, one_path, pair_same, path_of, tail_of, tree_long}
use Rattle.merkle.proofs.TreeLemmas.{length-padded_to, take-padded_to}
use Rattle.merkle.specs.OneTree.{SiblingsAgree, TreesAgree}

pub siblings_agree : SiblingsAgree
siblings_agree inputs no_clash m position first second these those p q e =
    (one_path (Contains inputs) no_clash m position first second these those (path_of inputs m position first these p) (path_of inputs m position second those q) e).siblings

-- ---- trees

-- full rows of hashes with one root
rows_agree : (inputs : List (List ℕ)) → HasNoClash inputs → (m : ℕ) (these those : List (List ℕ)) → AreHashes these → AreHashes those
    → length these ≡ 2 ^ m → length those ≡ 2 ^ m → AreAmong inputs (root_inputs m these) → AreAmong inputs (root_inputs m those)
    → root m these ≡ root m those → these ≡ those
rows_agree inputs no_clash zero these those are also full whole mine yours e =
    ext_get_or [] these those (full ∙ sym whole) (λ i below.
    let first : 0 ≡ i = omega (arith, below, full) in
    subst (λ (k : ℕ). get_or these k [] ≡ get_or those k []) first e)
rows_agree inputs no_clash (suc m) these those are also full whole mine yours e =
    let twice : 2 ^ suc m ≡ 2 ^ m + 2 ^ m = omega arith in
    let front : (xs : List (List ℕ)) → length xs ≡ 2 ^ suc m → length (take (2 ^ m) xs) ≡ 2 ^ m = λ xs long. length-take-le (2 ^ m) xs (omega (arith, long, twice)) in
    let back : (xs : List (List ℕ)) → length xs ≡ 2 ^ suc m → length (drop (2 ^ m) xs) ≡ 2 ^ m = λ xs long. omega (arith, length-drop (2 ^ m) xs, long, twice) in
    let Is : List ℕ → Type 0 = λ (h : List ℕ). length h ≡ 32 in
    let one = no_clash _ _ (head_of (Contains inputs) _ _ mine) (head_of (Contains inputs) _ _ yours) e in
    let rest = tail_of (Contains inputs) _ _ mine in
    let others = tail_of (Contains inputs) _ _ yours in
    let halves = pair_same _ _ _ _
    (tree_long m (take (2 ^ m) these) (front these full) (All-take Is (2 ^ m) these are)) (tree_long m (take (2 ^ m) those) (front those whole) (All-take Is (2 ^ m) those also))
    (tree_long m (drop (2 ^ m) these) (back these full) (All-drop Is (2 ^ m) these are)) (tree_long m (drop (2 ^ m) those) (back those whole) (All-drop Is (2 ^ m) those also)) one in
    let left = rows_agree inputs no_clash m (take (2 ^ m) these) (take (2 ^ m) those) (All-take Is (2 ^ m) these are) (All-take Is (2 ^ m) those also) (front these full) (front those whole)
    (λ x c. rest x (Contains-append_left (root_inputs m (take (2 ^ m) these)) (root_inputs m (drop (2 ^ m) these)) x c))
    (λ x c. others x (Contains-append_left (root_inputs m (take (2 ^ m) those)) (root_inputs m (drop (2 ^ m) those)) x c)) halves.0 in
    let right = rows_agree inputs no_clash m (drop (2 ^ m) these) (drop (2 ^ m) those) (All-drop Is (2 ^ m) these are) (All-drop Is (2 ^ m) those also) (back these full) (back those whole)
    (λ x c. rest x (Contains-append_right (root_inputs m (take (2 ^ m) these)) (root_inputs m (drop (2 ^ m) these)) x c))
    (λ x c. others x (Contains-append_right (root_inputs m (take (2 ^ m) those)) (root_inputs m (drop (2 ^ m) those)) x c)) halves.1 in
    sym (take-append-drop (2 ^ m) these) ∙ (λ i. left i ++ right i) ∙ take-append-drop (2 ^ m) those

pub padded_are_hashes : (n : ℕ) (leaves : List (List ℕ)) → AreHashes leaves → AreHashes (padded_to n leaves)
padded_are_hashes n leaves are =
    All-append (λ (h : List ℕ). length h ≡ 32) leaves (map empty_leaf_hash (range_with_len (length leaves) (n - length leaves))) are
    (All-map (λ (h : List ℕ). length h ≡ 32) empty_leaf_hash (range_with_len (length leaves) (n - length leaves)) (λ k d below. length-double_sha256 _))

pub trees_agree : TreesAgree
trees_agree inputs no_clash these those are also long mine yours e =
    let m : ℕ = height (length these) in
    let same : height (length those) ≡ m = ap height (sym long) in
    let room : length these ≤ 2 ^ m = height_room (length these) in
    let fits : length those ≤ 2 ^ m = omega (arith, room, long) in
    let root_is : root m (padded_to (2 ^ m) those) ≡ tree_root those = ap (λ (k : ℕ). root k (padded_to (2 ^ k) those)) (sym same) in
    let inputs_are : root_inputs m (padded_to (2 ^ m) those) ≡ root_inputs (height (length those)) (padded_to (2 ^ height (length those)) those) =
    ap (λ (k : ℕ). root_inputs k (padded_to (2 ^ k) those)) (sym same) in
    let rows = rows_agree inputs no_clash m (padded_to (2 ^ m) these) (padded_to (2 ^ m) those) (padded_are_hashes (2 ^ m) these are) (padded_are_hashes (2 ^ m) those also)
    (length-padded_to (2 ^ m) these room) (length-padded_to (2 ^ m) those fits)
    (λ x c. mine x (Contains-append_right _ (root_inputs m (padded_to (2 ^ m) these)) x c))
    (λ x c. yours x (Contains-append_right _ (root_inputs (height (length those)) (padded_to (2 ^ height (length those)) those)) x (subst (λ (l : List (List ℕ)). Contains l x) inputs_are c)))
    (e ∙ sym root_is) in
    sym (take-padded_to (2 ^ m) these) ∙ (λ i. take (long i) (rows i)) ∙ take-padded_to (2 ^ m) those
