-- Segments that are made by the last group.
use Rattle.std.specs.Prelude.{◌≡◌, ℕ, ◌+◌, ◌-◌, ◌*◌, ◌<◌, List, [], length, drop}
use Rattle.std.specs.Prelude.{slice_index_or, slice_set, take}
use Rattle.share_layout.specs.Pieces.{block_length}
use Rattle.proved_parts.specs.Decoding.{DecodesBlocks}
use Rattle.download_segments.specs.Decoding.{DecodingState, blocks_in}
use Rattle.download_segments.specs.Handout.{ProvesRow, first_handed_out, handed_out}
use Rattle.download_segments.specs.State.{HandoutState, ProvesSegment, RefutesSegment}
use Rattle.download_segments.specs.GroupState.{GroupState, IsLast, with_end}

-- The last group has one segment more, which is handed out: what its blocks decode to, and proved.
pub record MakesSegment (h : HandoutState) (groups : List GroupState) (number : ℕ)
    (joined : List ℕ) (h' : HandoutState) (groups' : List GroupState) : Type 0 where
  pub group : GroupState
  pub last : IsLast groups group
  pub segment : List ℕ
  pub decodes : DecodesBlocks group.decoding.geometry group.decoding.numbers
      (blocks_in group.decoding.geometry number joined) number segment
  pub proved : ProvesSegment h number segment
  pub handed : h' ≡ handed_out h segment
  pub groups_are : groups' ≡ slice_set groups (length groups - 1) (with_end group (number + 1))

-- the blocks decode to a segment that is refuted
pub record RefutesBlocks (h : HandoutState) (groups : List GroupState) (number : ℕ)
    (joined : List ℕ) : Type 0 where
  pub group : GroupState
  pub last : IsLast groups group
  pub segment : List ℕ
  pub decodes : DecodesBlocks group.decoding.geometry group.decoding.numbers
      (blocks_in group.decoding.geometry number joined) number segment
  pub refuted : RefutesSegment h number segment

-- ---- eight segments in a row

-- one of the texts
abbrev pub nth : List (List ℕ) → ℕ → List ℕ
nth texts i = slice_index_or texts i []

-- the block of this number, of blocks of one length that stand one after another
abbrev pub nth_block : List ℕ → ℕ → ℕ → List ℕ
nth_block joined len k = take len (drop (k * len) joined)

-- each has the length of the blocks of its segment
abbrev pub AreLong : DecodingState → ℕ → List (List ℕ) → Type 0
AreLong d number rows = (i : ℕ) → i < 8
    → length (nth rows i) ≡ d.geometry.needed * block_length d.geometry (number + i)

-- each decodes to its segment
abbrev pub DecodesRow : DecodingState → ℕ → List (List ℕ) → List (List ℕ) → Type 0
DecodesRow d number rows segments = (i : ℕ) → i < 8 → DecodesBlocks d.geometry d.numbers
    (blocks_in d.geometry (number + i) (nth rows i)) (number + i) (nth segments i)

-- The last group has eight segments more, which are handed out: what their blocks decode to, and
-- proved.
pub record MakesRow (h : HandoutState) (groups : List GroupState) (number : ℕ)
    (rows : List (List ℕ)) (h' : HandoutState) (groups' : List GroupState) : Type 0 where
  pub group : GroupState
  pub last : IsLast groups group
  pub segments : List (List ℕ)
  pub decodes : DecodesRow group.decoding number rows segments
  pub proved : ProvesRow h number segments
  pub handed : h' ≡ first_handed_out h segments 8
  pub groups_are : groups' ≡ slice_set groups (length groups - 1) (with_end group (number + 8))

-- the blocks decode to eight segments that are not all proved
pub record RefutesRow (h : HandoutState) (groups : List GroupState) (number : ℕ)
    (rows : List (List ℕ)) : Type 0 where
  pub group : GroupState
  pub last : IsLast groups group
  pub segments : List (List ℕ)
  pub decodes : DecodesRow group.decoding number rows segments
  pub refuted : ¬ ProvesRow h number segments
