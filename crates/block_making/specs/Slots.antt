-- Blocks that are kept in slots.
use Rattle.std.specs.Prelude.{◌≡◌, ℕ, List, Option, None, Some, take, slice_get}
use Rattle.block_making.specs.declared.slot.Name.{Name}

-- a block of a share, by the number of its segment
pub record KeptBlock : Type 0 where
  pub share : ℕ
  pub number : ℕ
  pub bytes : List ℕ

-- the slots of the first so many shares, each free or with a block of at most so many bytes
pub record Slots : Type 0 where
  pub shares : ℕ
  pub block_size : ℕ
  pub blocks : List (Option KeptBlock)

-- a slot holds this block
pub record Keeps (blocks : List (Option KeptBlock)) (block : KeptBlock) : Type 0 where
  pub slot : ℕ
  pub here : slice_get blocks slot ≡ Some (Some block)

-- what a slot holds, by the name of its block and its bytes
abbrev pub held : Option Name → List ℕ → Option KeptBlock
held None bytes = None
held (Some name) bytes = Some (record {
  share = name.share;
  number = name.number;
  bytes = take name.length bytes;
})
