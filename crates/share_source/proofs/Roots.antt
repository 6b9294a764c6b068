-- Roots of block trees.
use Rattle.std.proofs.Common.{◌≡◌, ℕ, ◌<◌, List, [], ◌∷◌, Some, length, refl, sym, subst, ap, ◌∙◌, inl, inr, arith, zero, suc, ◌+◌, ◌-◌, ◌*◌, ◌/◌, ◌^◌}
use Rattle.std.specs.Prelude.{◌≢◌, slice_get}
use Rattle.std.specs.Simd.{first_chunks}
use Rattle.std.proofs.lemmas.List.{take_all}
use Rattle.std.proofs.lemmas.Option.{same_Some}
use Rattle.share_verify.specs.TreeSection.{hashes_in}
use Rattle.merkle.specs.Partial.{IsNotConsistent, IsPartial, IsTouched, PartialState, Takes, ancestor, known_at, parent, starting}
use Rattle.merkle.specs.Tree.{height, node_count, tree_root}
use Rattle.ueb.specs.Shape.{Contents}
use Rattle.share_layout.specs.Geometry.{Geometry, segment_count}
use Rattle.share_layout.specs.declared.offsets.Offsets.{Offsets}
use Rattle.share_layout.specs.Layout.{offsets_of}
use Rattle.share_verify.specs.CapBlock.{geometry_by}
use Rattle.download_parts.specs.Trees.{FileTreesState, IsBlockRoot, starting_trees}
use Rattle.share_source.specs.Leaves.{AreNoLeaves, KnowsRoot, first_leaf}
use Rattle.share_source.specs.Leaves.AreNoLeaves.{others}
use Rattle.share_source.specs.Reads.{Fails, Gives}

-- a root that is offered to a tree and taken is the tree's
pub root_taken : (old new : PartialState) (root : List ℕ) → IsPartial old → Takes old ((0, root) ∷ []) new → root ≡ old.root
root_taken old new root sound t =
    same_Some root old.root (sym (t.known.offered 0 0 root refl) ∙ t.known.kept 0 old.root sound.root)

-- one hash alone
pub one_hash : (root : List ℕ) → length root ≡ 32 → hashes_in root ≡ root ∷ []
one_hash root long = ap (λ n. first_chunks 32 (n / 32) root) long ∙ ap (λ (h : List ℕ). h ∷ []) (take_all 32 root (omega (arith, long)))

-- the root as the only node that is offered
abbrev pub alone : List ℕ → List (ℕ × List ℕ)
alone root = (0, root) ∷ []

only_one : (k number : ℕ) (root hash : List ℕ) → slice_get (alone root) k ≡ Some (number, hash) → (number ≡ 0) × (hash ≡ root)
only_one zero number root hash e = (let offered : ℕ × List ℕ = (0, root) in let told : ℕ × List ℕ = (number, hash) in let same : offered ≡ told = same_Some offered told e in (sym (ap (λ (x : ℕ × List ℕ). x.0) same), sym (ap (λ (x : ℕ × List ℕ). x.1) same)))
only_one (suc k) number root hash e = absurd cc

above_root : (rows : ℕ) → ancestor rows 0 ≡ 0
above_root zero = refl
above_root (suc rows) = ap parent (above_root rows)

touches_root : (root : List ℕ) (number : ℕ) → IsTouched (alone root) number → number ≡ 0
touches_root root number t =
    let below : t.below ≡ 0 = (only_one t.position t.below root t.hash t.offered).0 in
    sym t.above ∙ ap (ancestor t.rows) below ∙ above_root t.rows

-- the tree's own root is not refused
pub root_refused : (old : PartialState) (root : List ℕ) → IsPartial old → IsNotConsistent old ((0, root) ∷ []) → root ≢ old.root
root_refused old root sound refused same = refused (known_at old) (record {
  inside = λ k number hash e. subst (λ (n : ℕ). n < node_count old.leaf_count) (sym (only_one k number root hash e).0) (sound.inside 0 old.root sound.root);
  kept = λ number hash e. e;
  offered = λ k number hash e. (let is = only_one k number root hash e in
      subst (λ (n : ℕ). known_at old n ≡ Some hash) (sym is.0) (sound.root ∙ ap (λ (h : List ℕ). Some h) (sym same ∙ sym is.1)));
  joined = λ number touched above. absurd (omega (arith, touches_root root number touched, above));
  others = λ number untouched. refl;
})

-- a root that is known by hashes that were read
pub root_known : {B : Type 0} (gives : Gives B) (u : Contents) (position number offset : ℕ) (old new : B) (hashes : List ℕ) (t : FileTreesState) (tree : PartialState)
    → offset ≡ (offsets_of (geometry_by u)).share_hashes → t ≡ starting_trees u (geometry_by u) → gives old position offset hashes new
    → IsBlockRoot t.shares.root t.geometry.total number tree.root → tree ≡ starting tree.root (segment_count t.geometry) → KnowsRoot gives u position number old tree new
root_known gives u position number offset old new hashes t tree there is read root tree_is = record {
  hashes = hashes;
  read = subst (λ (n : ℕ). gives old position n hashes new) there read;
  root = subst (λ (s : FileTreesState). IsBlockRoot s.shares.root s.geometry.total number tree.root) is root;
  tree_is = subst (λ (s : FileTreesState). tree ≡ starting tree.root (segment_count s.geometry)) is tree_is;
}

-- where the leaves stand that are read, and how long they are
pub leaves_at : (u : Contents) (g : Geometry) (o : Offsets) (inner count : ℕ) → g ≡ geometry_by u → o ≡ offsets_of g → inner ≡ (2 ^ height (segment_count g) - 1) * 32 → count ≡ segment_count g
    → (o.block_tree + inner ≡ first_leaf (geometry_by u)) × (count ≡ segment_count (geometry_by u))
leaves_at u g o inner count same there before many = (
  ap (λ (p : Offsets). p.block_tree + inner) (there ∙ ap offsets_of same) ∙ ap (λ (n : ℕ). (offsets_of (geometry_by u)).block_tree + n) (before ∙ ap (λ (h : Geometry). (2 ^ height (segment_count h) - 1) * 32) same),
  many ∙ ap segment_count same,
)

-- no leaves: reading them failed
pub leaves_failed : {B : Type 0} (gives : Gives B) (fails : Fails B) (u : Contents) (position number offset count : ℕ) (old mid new : B) (tree : PartialState) → KnowsRoot gives u position number old tree mid
    → offset ≡ first_leaf (geometry_by u) → count ≡ segment_count (geometry_by u) → fails mid position offset (count * 32) new → AreNoLeaves gives fails u position number old new
leaves_failed gives fails u position number offset count old mid new tree k there many failed = others mid k.hashes tree.root k.read k.root
    (inl (subst (λ (n : ℕ). fails mid position (first_leaf (geometry_by u)) (n * 32) new) many (subst (λ (n : ℕ). fails mid position n (count * 32) new) there failed)))

-- no leaves: the tree over them has another root
pub leaves_other : {B : Type 0} (gives : Gives B) (fails : Fails B) (u : Contents) (position number offset : ℕ) (old mid new : B) (tree : PartialState) (text : List ℕ) (leaves : List (List ℕ))
    → KnowsRoot gives u position number old tree mid → offset ≡ first_leaf (geometry_by u) → gives mid position offset text new → leaves ≡ hashes_in text → tree_root leaves ≢ tree.root → AreNoLeaves gives fails u position number old new
leaves_other gives fails u position number offset old mid new tree text leaves k there read are other = others mid k.hashes tree.root k.read k.root
    (inr (text, subst (λ (n : ℕ). gives mid position n text new) there read, subst (λ (l : List (List ℕ)). tree_root l ≢ tree.root) are other))
