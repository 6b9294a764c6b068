-- Parts of a plan that are asked together.
use Rattle.std.specs.Prelude.{◌≡◌, ℕ, ◌+◌, ◌<◌, ◌≤◌, List, max, length, slice_set, All}
use Rattle.std.specs.Prelude.{true}
use Rattle.share_layout.specs.Geometry.{Geometry}
use Rattle.download_parts.specs.Level.{level_at}
use Rattle.download_parts.specs.Plan.{IsNodePiece, pieces_of}
use Rattle.download_parts.specs.declared.part.Part.{Part}
use Rattle.download_parts.specs.declared.part.Part.TheVariants.{BlockTree, CiphertextTree}
use Rattle.download_supply.specs.Cursors.{LeadOn, cursor_at}
use Rattle.download_supply.specs.Asking.{IsReadBy, IsReadOf, parts_of}
use Rattle.download_supply.specs.Supply.{HaveLevels, SupplyState, first_of}
use Rattle.download_supply.specs.Upper.{UpperComeFirst}
use Rattle.download_supply.specs.declared.cursors.Cursors.{Cursors}
use Rattle.download_supply.specs.declared.tree.Tree.{Tree}
use Rattle.download_supply.specs.declared.tree.Tree.TheVariants.{Blocks, Ciphertext}
use Rattle.download_supply.specs.declared.wanted.Wanted.{Wanted}

-- the cursors of a tree's levels, and cursors with these in their place
abbrev pub levels_of : Tree → Cursors → List ℕ
levels_of Blocks c = c.block_tree
levels_of Ciphertext c = c.ciphertext_tree

abbrev pub with_levels : Tree → Cursors → List ℕ → Cursors
with_levels Blocks c levels = record c { block_tree = levels }
with_levels Ciphertext c levels = record c { ciphertext_tree = levels }

-- a piece of a tree as a part of a plan
abbrev pub part_of : Tree → ℕ → ℕ → Part
part_of Blocks level index = BlockTree (record { level = level; index = index })
part_of Ciphertext level index = CiphertextTree (record { level = level; index = index })

-- pieces of a tree may be asked: those of the block tree behind the share hashes
abbrev pub IsOpen : Tree → Cursors → Type 0
IsOpen Blocks c = c.share_hashes ≡ true
IsOpen Ciphertext c = Unit {0}

-- the parts of the plan for the segments `first` to before `end` that lead from the cursors `begun`
-- to the cursors `reached`
pub record BatchState : Type 0 where
  pub geometry : Geometry
  pub first : ℕ
  pub end : ℕ
  pub begun : Cursors
  pub reached : Cursors
  pub wanted : List Wanted

-- the value of a batch with these fields
abbrev pub batch_state : Geometry → ℕ → ℕ → Cursors → Cursors → List Wanted → BatchState
batch_state geometry first end begun reached wanted = record {
  geometry = geometry;
  first = first;
  end = end;
  begun = begun;
  reached = reached;
  wanted = wanted;
}

-- what holds of each batch
pub record IsBatch (b : BatchState) : Type 0 where
  pub reads : All (IsReadBy b.geometry b.first b.end) b.wanted
  pub in_order : LeadOn b.begun (parts_of b.wanted) b.reached
  pub upper : UpperComeFirst b.geometry (λ part. b.first) b.begun (parts_of b.wanted)

-- it is the same batch, with more parts
pub record IsMore (old new : BatchState) : Type 0 where
  pub geometry : new.geometry ≡ old.geometry
  pub first : new.first ≡ old.first
  pub end : new.end ≡ old.end
  pub begun : new.begun ≡ old.begun

-- the levels of a tree, where one of them is passed up to this piece
abbrev pub raised : List ℕ → ℕ → ℕ → List ℕ
raised levels level count = slice_set levels level (max (cursor_at levels level) count)

-- the levels of a tree, where the first ones, so many, are passed up to the pieces of the plan for
-- the segments `a` to before `b`
pub record AreRaised (g : Geometry) (a b levels : ℕ) (old new : List ℕ) : Type 0 where
  pub count : length new ≡ length old
  pub those : (level : ℕ) → level < levels
      → cursor_at new level ≡ max (cursor_at old level) (pieces_of (level_at g a b level))
  pub others : (level : ℕ) → levels ≤ level → cursor_at new level ≡ cursor_at old level

-- the parts of a supply lead from what was asked to these cursors
pub record IsStep (s : SupplyState) (reached : Cursors) (wanted : List Wanted) : Type 0 where
  pub reads : All (IsReadOf s) wanted
  pub in_order : LeadOn s.asked (parts_of wanted) reached
  pub upper : UpperComeFirst s.geometry (first_of s) s.asked (parts_of wanted)
  pub levels : HaveLevels reached

-- pieces of the ciphertext tree, by the plan that ends with this segment
abbrev pub IsCiphertextUpTo : SupplyState → ℕ → Part → Type 0
IsCiphertextUpTo s last (CiphertextTree p) =
    (s.start ≤ last) × (last < s.end) × IsNodePiece s.geometry s.start (last + 1) p
IsCiphertextUpTo s last part = ⊥
