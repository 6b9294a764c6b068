-- The leaves of the block tree of a share.
use Rattle.std.specs.Prelude.{◌≡◌, ◌≢◌, ◌⊎◌, ℕ, ◌+◌, ◌-◌, ◌*◌, ◌^◌, ◌≤◌, List, length}
pub use Rattle.share_verify.specs.TreeSection.{hashes_in}
use Rattle.merkle.specs.Partial.{PartialState, starting}
use Rattle.merkle.specs.Tree.{height, tree_root}
use Rattle.ueb.specs.Shape.{Contents}
use Rattle.share_layout.specs.Geometry.{Geometry, hashes_size, segment_count}
use Rattle.share_layout.specs.Layout.{offsets_of}
use Rattle.share_verify.specs.CapBlock.{geometry_by}
use Rattle.share_verify.specs.declared.check.Check.{Check}
use Rattle.download_parts.specs.Refusal.{IsHashesRefusal}
use Rattle.download_parts.specs.Trees.{IsBlockRoot, starting_trees}
use Rattle.share_source.specs.Reads.{Fails, Gives}

-- These are leaves of the block tree of a share of this number, one for each segment: the root of
-- the tree over them leads to the root over all shares.
pub record AreLeavesOf (u : Contents) (number : ℕ) (leaves : List (List ℕ)) : Type 0 where
  pub count : length leaves ≡ segment_count (geometry_by u)
  pub root : IsBlockRoot u.share_root_hash u.total_shares number (tree_root leaves)

-- where the leaves begin in a share
abbrev pub first_leaf : Geometry → ℕ
first_leaf g = (offsets_of g).block_tree + (2 ^ height (segment_count g) - 1) * 32

-- The share's own hashes were read: either that failed, or they are refused.
abbrev pub AreNoHashes : {B : Type 0} → Gives B → Fails B → Contents → ℕ → ℕ → B → B → Type 0
AreNoHashes gives fails u position number old new =
    let g = geometry_by u in
    fails old position (offsets_of g).share_hashes (hashes_size g) new
    ⊎ ((hashes : List ℕ) × (check : Check)
    × gives old position (offsets_of g).share_hashes hashes new
    × IsHashesRefusal (starting_trees u g) number hashes check)

-- The leaves were read, from a state on in which a root is known: either that failed, or the tree
-- over them has another root.
abbrev pub AreOtherLeaves : {B : Type 0} → Gives B → Fails B → Contents → ℕ → List ℕ → B → B
    → Type 0
AreOtherLeaves gives fails u position root old new =
    let g = geometry_by u in
    fails old position (first_leaf g) (segment_count g * 32) new
    ⊎ ((text : List ℕ) × gives old position (first_leaf g) text new
    × (tree_root (hashes_in text) ≢ root))

-- No leaves were read of the share at a position: the file has no share of this number, or the
-- share's hashes are none, or by the root to which they lead the leaves are others.
pub data AreNoLeaves {B : Type 0} (gives : Gives B) (fails : Fails B) (u : Contents)
    (position number : ℕ) (old new : B) : Type 0 where
  no_share : u.total_shares ≤ number → AreNoLeaves gives fails u position number old new
  no_hashes : AreNoHashes gives fails u position number old new
      → AreNoLeaves gives fails u position number old new
  others : (mid : B) (hashes root : List ℕ)
      → gives old position (offsets_of (geometry_by u)).share_hashes hashes mid
      → IsBlockRoot u.share_root_hash u.total_shares number root
      → AreOtherLeaves gives fails u position root mid new
      → AreNoLeaves gives fails u position number old new

-- ---- words of private clauses

-- the share's hashes were read, and lead to the root of this tree, of which nothing else is known
pub record KnowsRoot {B : Type 0} (gives : Gives B) (u : Contents) (position number : ℕ) (old : B)
    (tree : PartialState) (new : B) : Type 0 where
  pub hashes : List ℕ
  pub read : gives old position (offsets_of (geometry_by u)).share_hashes hashes new
  pub root : IsBlockRoot u.share_root_hash u.total_shares number tree.root
  pub tree_is : tree ≡ starting tree.root (segment_count (geometry_by u))
