-- The block of a segment, in the pieces of the data that hold it.
use Rattle.std.specs.Prelude.{◌≡◌, ℕ, ◌+◌, ◌-◌, ◌≤◌, List, is_some, length, slice_range}
use Rattle.std.specs.Prelude.{drop, take, true}
use Rattle.std.specs.List.{concat}
use Rattle.share_layout.specs.Geometry.{Geometry}
use Rattle.share_layout.specs.Pieces.{block_length}
use Rattle.download_parts.specs.Plan.{block_start, offset_at, piece_at}
use Rattle.download_supply.specs.Asking.{IsWithin}
use Rattle.download_supply.specs.Supply.{SupplyState}
use Rattle.download_supply.specs.Taking.{known_hash}

-- the pieces that hold the block of a segment, in the plan from the segment `a` on: the first, and
-- the one behind the last
abbrev pub block_first : Geometry → ℕ → ℕ → ℕ
block_first g a segment = piece_at g a (block_start g segment)

abbrev pub block_end : Geometry → ℕ → ℕ → ℕ
block_end g a segment =
    piece_at g a (block_start g segment + block_length g segment - 1) + 1

-- where the block begins in the first of them
abbrev pub block_offset : Geometry → ℕ → ℕ → ℕ
block_offset g a segment = offset_at g a (block_start g segment)

-- the block, of the bytes of these pieces
abbrev pub joined_block : Geometry → ℕ → ℕ → List (List ℕ) → List ℕ
joined_block g a segment pieces =
    take (block_length g segment) (drop (block_offset g a segment) (concat pieces))

-- all pieces of the segment's block are held
pub record IsHeld (s : SupplyState) (segment : ℕ) : Type 0 where
  pub within : IsWithin s segment
  pub pieces : block_end s.geometry s.first segment ≤ length s.held

-- where they are held
abbrev pub block_positions : SupplyState → ℕ → List ℕ
block_positions s segment = slice_range s.held
    (block_first s.geometry s.first segment) (block_end s.geometry s.first segment)

-- a segment's block can be told right or wrong: all its pieces are held, and its hash is known
pub record IsReady (s : SupplyState) (segment : ℕ) : Type 0 where
  pub held : IsHeld s segment
  pub known : is_some (known_hash s segment) ≡ true
