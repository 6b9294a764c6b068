-- What is known of the hash trees of a file and of its shares.
use Rattle.std.specs.Prelude.{◌≡◌, ◌≢◌, ℕ, ◌^◌, List, Option, Some}
use Rattle.tagged_hash.specs.TaggedHash.{tagged_hash}
use Rattle.tagged_hash.specs.declared.tag.Tag.TheVariants.{Block}
use Rattle.merkle.specs.Known.{KnowsHashes}
use Rattle.merkle.specs.Partial.{IsPartial, PartialState, known_at, leaf_number, starting}
use Rattle.merkle.specs.Tree.{height}
use Rattle.ueb.specs.Shape.{Contents}
use Rattle.share_layout.specs.Geometry.{Geometry, IsGeometry, segment_count}

-- the known nodes of a tree over so many leaves lead to this root
pub record LeadTo (p : PartialState) (root : List ℕ) (count : ℕ) : Type 0 where
  pub sound : IsPartial p
  pub of_root : p.root ≡ root
  pub leaves : p.leaf_count ≡ count

-- so do those of a share's block tree to its own root, over so many segments, and each has 32 bytes
pub record IsBlockTree (p : PartialState) (count : ℕ) : Type 0 where
  pub leads : LeadTo p p.root count
  pub hashes : KnowsHashes p

-- what is known of the nodes of a tree is known of another, over as many leaves
pub record KnowsAllOf (p q : PartialState) : Type 0 where
  pub leaves : q.leaf_count ≡ p.leaf_count
  pub known : (number : ℕ) (hash : List ℕ) → known_at p number ≡ Some hash
      → known_at q number ≡ Some hash

-- what is known of a leaf
abbrev pub known_leaf : PartialState → ℕ → Option (List ℕ)
known_leaf p leaf = known_at p (leaf_number p.leaf_count leaf)

-- how many leaves the share tree has: the power of two with room for all shares. What
-- stands behind the last share is not asked for.
abbrev pub share_leaves : ℕ → ℕ
share_leaves total = 2 ^ height total

-- the share tree, with a leaf for each share, and the ciphertext tree, with one for each segment
pub record FileTreesState : Type 0 where
  pub geometry : Geometry
  pub shares : PartialState
  pub ciphertext : PartialState

-- the value of trees with these fields
abbrev pub trees_state : Geometry → PartialState → PartialState → FileTreesState
trees_state geometry shares ciphertext =
    record { geometry = geometry; shares = shares; ciphertext = ciphertext }

-- what is known by the extension block alone
abbrev pub starting_trees : Contents → Geometry → FileTreesState
starting_trees u g = record {
  geometry = g;
  shares = starting u.share_root_hash (share_leaves g.total);
  ciphertext = starting u.crypttext_root_hash (segment_count g);
}

-- What holds of the trees of each file: the known nodes lead to the roots, and have 32 bytes each.
pub record AreTrees (t : FileTreesState) : Type 0 where
  pub valid : IsGeometry t.geometry
  pub shares : LeadTo t.shares t.shares.root (share_leaves t.geometry.total)
  pub ciphertext : LeadTo t.ciphertext t.ciphertext.root (segment_count t.geometry)
  pub share_hashes : KnowsHashes t.shares
  pub hashes : KnowsHashes t.ciphertext

-- they are trees of one file still
pub record HaveSameRoots (old new : FileTreesState) : Type 0 where
  pub geometry : new.geometry ≡ old.geometry
  pub shares : new.shares.root ≡ old.shares.root
  pub ciphertext : new.ciphertext.root ≡ old.ciphertext.root

-- this is the root of the block tree of one of `total` shares, by nodes that lead to the root of
-- the share tree
pub record IsBlockRoot (share_root : List ℕ) (total share : ℕ) (root : List ℕ) : Type 0 where
  pub tree : PartialState
  pub leads : LeadTo tree share_root (share_leaves total)
  pub known : known_leaf tree share ≡ Some root

-- the leaf that is known for a segment is the hash of this block
abbrev pub ProvesBlock : PartialState → ℕ → List ℕ → Type 0
ProvesBlock p segment block = known_leaf p segment ≡ Some (tagged_hash Block block)

-- the leaf that is known for a segment is not the hash of this block
pub record RefutesBlock (p : PartialState) (segment : ℕ) (block : List ℕ) : Type 0 where
  pub leaf : List ℕ
  pub known : known_leaf p segment ≡ Some leaf
  pub differs : leaf ≢ tagged_hash Block block
