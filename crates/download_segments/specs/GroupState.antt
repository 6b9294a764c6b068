-- Segments that were made of the blocks of the same readers.
use Rattle.std.specs.Prelude.{◌≡◌, ℕ, ◌-◌, List, length, Some, slice_get}
use Rattle.std.specs.List.{range_with_len}
use Rattle.share_layout.specs.Geometry.{Geometry}
use Rattle.download_segments.specs.Decoding.{DecodingState}

-- the segments `first` to before `end` were made of the blocks of these readers, in this order
pub record GroupState : Type 0 where
  pub first : ℕ
  pub end : ℕ
  pub readers : List ℕ
  pub decoding : DecodingState

-- the numbers of the segments of these groups
abbrev pub segments_in : GroupState → List ℕ
segments_in group = range_with_len group.first (group.end - group.first)

-- a group of the readers at these positions, which read shares of these numbers, that no segment
-- was made of yet
abbrev pub new_group : Geometry → List ℕ → List ℕ → ℕ → GroupState
new_group g offsets numbers number = record {
  first = number;
  end = number;
  readers = offsets;
  decoding = record { geometry = g; numbers = numbers };
}

-- the last of these groups
abbrev pub IsLast : List GroupState → GroupState → Type 0
IsLast groups group = slice_get groups (length groups - 1) ≡ Some group

-- the last group has one segment more
abbrev pub with_end : GroupState → ℕ → GroupState
with_end group end = record group { end = end }
