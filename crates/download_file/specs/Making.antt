-- What becomes of the next segment of a file.
use Rattle.std.specs.Prelude.{◌≡◌, ◌⊎◌, ℕ, zero, suc, ◌+◌, ◌*◌, ◌<◌, ◌≤◌, List, [], Contains}
use Rattle.std.specs.Prelude.{Bool, true, Some, None, length, slice_get, slice_index_or}
use Rattle.request_record.specs.declared.requests.Request.{Request}
use Rattle.share_layout.specs.Geometry.{Geometry}
use Rattle.share_layout.specs.Pieces.{block_length}
use Rattle.merkle.specs.Partial.{PartialState}
use Rattle.download_parts.specs.Trees.{RefutesBlock, known_leaf}
use Rattle.proved_parts.specs.Decoding.{DecodesBlocks}
use Rattle.download_supply.specs.Blocks.{IsHeld, IsReady}
use Rattle.download_segments.specs.Decoding.{blocks_in}
use Rattle.download_segments.specs.Handout.{IsRowWanted, ProvesRow, handed_out, next_segment}
use Rattle.download_segments.specs.State.{ProvesSegment, RefutesSegment}
use Rattle.download_file.specs.State.{FileState, IsComplete, IsLive, IsReader, ReaderState}
use Rattle.download_file.specs.State.{first_position, first_waiting, numbers_of}
use Rattle.download_file.specs.Answers.{HasRightBlock, HaveRightBlocks, block_of, blocks_of}
use Rattle.download_file.specs.Asked.{AreAskedUp}

-- something waits of a reader that is read
pub record SomeWaits (f : FileState) : Type 0 where
  pub reader : ℕ
  pub live : IsLive f reader
  pub position : ℕ
  pub first : first_waiting f reader ≡ Some position

-- Why no segment is made now: none is wanted, or too few shares are read, or, where all that is
-- wanted of these for the next segment is asked, something waits of one of them.
abbrev pub CanNotGoOn : FileState → Type 0
CanNotGoOn f = IsComplete f ⊎ (length f.live < f.handout.geometry.needed)
    ⊎ (AreAskedUp f → SomeWaits f)

-- So many bytes of segments are asked ahead. Where segments are so short that these are two rows of
-- eight, a row can be awaited while others are asked.
abbrev pub window : ℕ
window = 4194304

abbrev pub AreRowsAsked : Geometry → Type 0
AreRowsAsked g = 16 * g.segment_size ≤ window

-- a reader that is read has not its block of a segment, and something waits of it
pub record AwaitsBlock (readers : List ReaderState) (live : List ℕ) (number : ℕ) : Type 0 where
  pub reader : ℕ
  pub among : Contains live reader
  pub r : ReaderState
  pub there : slice_get readers reader ≡ Some r
  pub lacks : ¬ IsReady r.supply number
  pub position : ℕ
  pub first : first_position r.waiting ≡ Some position

-- Eight segments from the next on are wanted, each to its end, and are on their way: a block of the
-- eighth is waited for.
pub record AwaitsRow (f : FileState) : Type 0 where
  pub asked : AreRowsAsked f.handout.geometry
  pub number : ℕ
  pub next : next_segment f.handout ≡ Some number
  pub wanted : IsRowWanted f.handout number
  pub awaits : AwaitsBlock f.readers f.live (number + 7)

-- a reader that is read has not its block of a segment, or does not know the hash of that block
pub record LacksBlock (f : FileState) (number : ℕ) : Type 0 where
  pub reader : ℕ
  pub live : IsLive f reader
  pub r : ReaderState
  pub there : IsReader f reader r
  pub lacks : ¬ IsReady r.supply number

-- A next segment is wanted, and not all that it is made of is there: fewer shares are read than are
-- needed, or a reader lacks its block, or the hash of the segment is not known.
pub record LacksNext (f : FileState) : Type 0 where
  pub number : ℕ
  pub next : next_segment f.handout ≡ Some number
  pub lacks : (length f.live < f.handout.geometry.needed) ⊎ LacksBlock f number
      ⊎ (known_leaf f.handout.trees.ciphertext number ≡ None)

-- It must wait: the next segment lacks something. Where it is patient, eight segments may be on
-- their way instead.
abbrev pub MustWait : Bool → FileState → Type 0
MustWait patient f = LacksNext f ⊎ ((patient ≡ true) × AwaitsRow f)

-- the block of the next segment, of the answers that a reader holds, is not the one whose hash the
-- reader's block tree tells
pub record RefutesReader (entries : List Request) (f : FileState) (reader : ℕ) : Type 0 where
  pub live : IsLive f reader
  pub r : ReaderState
  pub there : IsReader f reader r
  pub number : ℕ
  pub next : next_segment f.handout ≡ Some number
  pub held : IsHeld r.supply number
  pub tree : PartialState
  pub is : r.supply.tree ≡ Some tree
  pub long : length (block_of entries r.supply number) ≡ block_length f.handout.geometry number
  pub refuted : RefutesBlock tree number (block_of entries r.supply number)

-- a piece is made of the next segment: the blocks of all that are read are right, and what is made
-- is proved
pub record MakesNext (entries : List Request) (old new : FileState) : Type 0 where
  pub number : ℕ
  pub segment : List ℕ
  pub next : next_segment old.handout ≡ Some number
  pub right : HaveRightBlocks entries old.readers old.live number
  pub proved : ProvesSegment old.handout number segment
  pub handed : new.handout ≡ handed_out old.handout segment

-- pieces of so many segments are made, one after another
unfoldable pub MakesSegments : List Request → ℕ → FileState → FileState → Type 0
MakesSegments entries zero old new = new.handout ≡ old.handout
MakesSegments entries (suc n) old new =
    (between : FileState) × MakesSegments entries n old between × MakesNext entries between new

-- pieces of the next segment are made, or of the next eight
abbrev pub MakesPieces : List Request → FileState → FileState → Type 0
MakesPieces entries old new = MakesNext entries old new ⊎ MakesSegments entries 8 old new

-- As many shares as are needed are read, and all their blocks of the next segment are right. What
-- they decode to is not the segment whose hash is known.
pub record IsInconsistent (entries : List Request) (f : FileState) : Type 0 where
  pub number : ℕ
  pub next : next_segment f.handout ≡ Some number
  pub enough : length f.live ≡ f.handout.geometry.needed
  pub right : HaveRightBlocks entries f.readers f.live number
  pub segment : List ℕ
  pub decodes : DecodesBlocks f.handout.geometry (numbers_of f.readers f.live)
      (blocks_in f.handout.geometry number (blocks_of entries f.readers number f.live))
      number segment
  pub refuted : RefutesSegment f.handout number segment

-- Eight segments from this one on are wanted to their ends. As many shares as are needed are read,
-- and all their blocks are right, and decode to the segments whose hashes are known.
pub record IsWholeRow (entries : List Request) (f : FileState) (number : ℕ) : Type 0 where
  pub wanted : IsRowWanted f.handout number
  pub enough : length f.live ≡ f.handout.geometry.needed
  pub blocks : (i reader : ℕ) (r : ReaderState) → i < 8 → IsLive f reader → IsReader f reader r
      → HasRightBlock entries r (number + i)
  pub segments : List (List ℕ)
  pub decodes : (i : ℕ) → i < 8 → DecodesBlocks f.handout.geometry (numbers_of f.readers f.live)
      (blocks_in f.handout.geometry (number + i)
      (blocks_of entries f.readers (number + i) f.live))
      (number + i) (slice_index_or segments i [])
  pub proved : ProvesRow f.handout number segments

-- such eight are the next ones
abbrev pub CanMakeRow : List Request → FileState → Type 0
CanMakeRow entries f =
    (number : ℕ) × (next_segment f.handout ≡ Some number) × IsWholeRow entries f number
