-- What the answers in a record say of a file that is read.
use Rattle.std.specs.Prelude.{◌≡◌, ℕ, ◌<◌, ◌≤◌, List, [], ◌∷◌, map, length, Option, Some, None}
use Rattle.std.specs.Prelude.{slice_get, slice_index_or, Contains}
use Rattle.std.specs.List.{flat_map}
use Rattle.wire.specs.declared.message.Body.{Body}
use Rattle.wire.specs.declared.message.Body.TheVariants.{Data}
use Rattle.request_record.specs.declared.requests.Asked.TheVariants.{Reading}
use Rattle.request_record.specs.declared.requests.Outcome.{Outcome}
use Rattle.request_record.specs.declared.requests.Outcome.TheVariants.{Answered}
use Rattle.request_record.specs.declared.requests.Request.{Request}
use Rattle.proved_parts.specs.Decoding.{DecodesBlocks}
use Rattle.download_parts.specs.Plan.{length_of, offset_of}
use Rattle.download_parts.specs.declared.part.Part.TheVariants as parts
use Rattle.download_supply.specs.Blocks.{IsReady, block_positions, joined_block}
use Rattle.download_supply.specs.Supply.{SupplyState}
use Rattle.download_supply.specs.Taking.{IsProved}
use Rattle.download_segments.specs.Decoding.{blocks_in}
use Rattle.download_segments.specs.Pieces.{IsSlice}
use Rattle.download_segments.specs.State.{HandoutState, ProvesSegment}
use Rattle.download_segments.specs.declared.piece.Piece.{Piece}
use Rattle.download_segments.specs.GroupState.{GroupState}
use Rattle.download_file.specs.State.{FileState, IsReader, ReaderState}
use Rattle.download_file.specs.declared.reader.Waiting.{Waiting}

-- the answer to the request at a position is these bytes
pub record AnsweredWith (entries : List Request) (position : ℕ) (bytes : List ℕ) : Type 0 where
  pub request : Request
  pub there : slice_get entries position ≡ Some request
  pub answer : request.outcome ≡ Answered (Data bytes)

-- The request at a position asked a server for so many bytes of a share from an offset on, and as
-- many are the answer.
pub record IsAnswerOf (entries : List Request) (server share offset len position : ℕ) : Type 0 where
  pub request : Request
  pub there : slice_get entries position ≡ Some request
  pub of_server : request.server ≡ server
  pub asked : request.asked ≡ Reading share offset len
  pub bytes : List ℕ
  pub answer : request.outcome ≡ Answered (Data bytes)
  pub long : length bytes ≡ len

-- The part was asked of the reader's server, as bytes of the reader's share, by the request at its
-- position, and these bytes are the answer.
pub record IsAnswerTo (entries : List Request) (r : ReaderState) (w : Waiting) (bytes : List ℕ)
    : Type 0 where
  pub request : Request
  pub there : slice_get entries w.position ≡ Some request
  pub of_server : request.server ≡ r.server
  pub asked : request.asked ≡ Reading r.share w.wanted.read.offset w.wanted.read.length
  pub answer : request.outcome ≡ Answered (Data bytes)

-- so it is of the first part that waits of the reader at a position
pub record AnswersFirst (entries : List Request) (f : FileState) (reader : ℕ) (bytes : List ℕ)
    : Type 0 where
  pub r : ReaderState
  pub there : IsReader f reader r
  pub first : Waiting
  pub others : List Waiting
  pub waits : r.waiting ≡ first ∷ others
  pub answers : IsAnswerTo entries r first bytes

-- the bytes that are the answer to the request at a position
abbrev pub bytes_in : Outcome → List ℕ
bytes_in (Answered (Data bytes)) = bytes
bytes_in outcome = []

abbrev pub bytes_of : Option Request → List ℕ
bytes_of None = []
bytes_of (Some request) = bytes_in request.outcome

abbrev pub answer_at : List Request → ℕ → List ℕ
answer_at entries position = bytes_of (slice_get entries position)

-- the block of a segment, of the answers that its supply holds
abbrev pub block_of : List Request → SupplyState → ℕ → List ℕ
block_of entries s number =
    joined_block s.geometry s.first number (map (answer_at entries) (block_positions s number))

abbrev pub block_in : List Request → ℕ → Option ReaderState → List ℕ
block_in entries number None = []
block_in entries number (Some r) = block_of entries r.supply number

-- the blocks of a segment that the readers at these positions hold, one after another
abbrev pub blocks_of : List Request → List ReaderState → ℕ → List ℕ → List ℕ
blocks_of entries readers number positions =
    flat_map (λ position. block_in entries number (slice_get readers position)) positions

-- each piece of the data that the supply holds was asked of this server, as bytes of this share
-- where the piece lies, and is an answer of its length
abbrev pub HoldsFor : List Request → ℕ → ℕ → SupplyState → Type 0
HoldsFor entries server share s = (k : ℕ) → k < length s.held
    → IsAnswerOf entries server share (offset_of s.geometry s.first s.end (parts.Data k))
    (length_of s.geometry s.first s.end (parts.Data k)) (slice_index_or s.held k 0)

-- what a reader holds its own server sent, of its own share
abbrev pub HoldsAnswers : List Request → ReaderState → Type 0
HoldsAnswers entries r = HoldsFor entries r.server r.share r.supply

-- The block of a segment that a reader holds is the one whose hash its block tree tells.
pub record HasRightBlock (entries : List Request) (r : ReaderState) (number : ℕ) : Type 0 where
  pub ready : IsReady r.supply number
  pub proved : IsProved r.supply number (block_of entries r.supply number)

-- so it is of each of the readers at these positions
abbrev pub HaveRightBlocks : List Request → List ReaderState → List ℕ → ℕ → Type 0
HaveRightBlocks entries readers positions number = (position : ℕ) (r : ReaderState)
    → Contains positions position → slice_get readers position ≡ Some r
    → HasRightBlock entries r number

-- the blocks of a segment that the readers of a group hold are right, and decode to what is proved
pub record IsMade (entries : List Request) (h : HandoutState) (readers : List ReaderState)
    (group : GroupState) (number : ℕ) : Type 0 where
  pub right : HaveRightBlocks entries readers group.readers number
  pub segment : List ℕ
  pub decodes : DecodesBlocks h.geometry group.decoding.numbers
      (blocks_in h.geometry number (blocks_of entries readers number group.readers))
      number segment
  pub proved : ProvesSegment h number segment

-- this segment was made of blocks that the readers of a group hold
pub record IsMadeSegment (entries : List Request) (f : FileState) (number : ℕ) (segment : List ℕ)
    : Type 0 where
  pub group : GroupState
  pub among : Contains f.groups group
  pub from : group.first ≤ number
  pub before : number < group.end
  pub made : IsMade entries f.handout f.readers group number
  pub is : made.segment ≡ segment

-- the piece is a slice of a segment that was made
pub record IsGivenBy (entries : List Request) (f : FileState) (p : Piece) : Type 0 where
  pub number : ℕ
  pub segment : List ℕ
  pub made : IsMadeSegment entries f number segment
  pub slice : IsSlice f.handout.key f.handout.ueb.segment_size number segment p

-- The readers hold answers of this record. Each segment of a group was made of them, and so were
-- the pieces that are ready.
pub record IsRead (entries : List Request) (f : FileState) : Type 0 where
  pub held : (reader : ℕ) (r : ReaderState) → IsReader f reader r → HoldsAnswers entries r
  pub made : (group : GroupState) (number : ℕ) → Contains f.groups group → group.first ≤ number
      → number < group.end → IsMade entries f.handout f.readers group number
  pub ready : (p : Piece) → Contains f.handout.ready p → IsGivenBy entries f p

-- what was answered stays
abbrev pub KeepsAnswers : List Request → List Request → Type 0
KeepsAnswers old new = (position : ℕ) (request : Request) (body : Body)
    → slice_get old position ≡ Some request → request.outcome ≡ Answered body
    → slice_get new position ≡ Some request
