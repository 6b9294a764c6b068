-- Shares that are made anew of good ones, which are read where they stand.
use Rattle.std.specs.Prelude.{◌≡◌, ℕ, Bool, true, false, ◌||◌, List, [], length, map}
use Rattle.std.specs.Prelude.{replicate, slice_get}
use Rattle.std.specs.List.{flat_map}
use Rattle.std.specs.Option.{option_to_list}
use Rattle.cap_text.specs.Cap.{VerifyCapValue}
use Rattle.ueb.specs.Shape.{Contents}
use Rattle.share_verify.specs.CapBlock.{IsUebFor, geometry_by}
use Rattle.carried_operations.specs.declared.range.SharePlace.{SharePlace}
use Rattle.share_source.specs.Decoded.{Decoding, GivesDecoded}
use Rattle.share_source.specs.Reads.{Fails, Gives, WasRead}
use Rattle.carried_operations.specs.Fetched.{FetchedState}
use Rattle.sources.specs.Source.{HasFailedMore}
use Rattle.file_streaming.specs.Remade.{IsOfNoText, IsRemadeFrom}
use Rattle.file_upload.specs.RemadeStream.{GaveRemade, RemadeStreaming, ready_remade}
use Rattle.request_record.specs.Operations.{OperationCalls}
use Rattle.upload_core.specs.Calls.{upload_calls}
use Rattle.upload_core.specs.declared.pieces.PieceFault.{PieceFault}
use Rattle.upload_core.specs.declared.pieces.PieceFault.TheVariants.{OutOfMemory, SourceChanged}
use Rattle.upload_core.specs.declared.pieces.PieceFault.TheVariants.{SourceFault}
use Rattle.upload_core.specs.Ready.{Ready}
use Rattle.upload_core.specs.Sending.{Uploading}

-- The padded ciphertext of a file begins to be decoded from shares with these numbers, of which no
-- block was read yet, and no leaves.
pub record IsBegun {B : Type 0} (u : Contents) (numbers : List ℕ) (bytes : B) (source : Decoding B)
    : Type 0 where
  pub geometry : source.geometry ≡ geometry_by u
  pub ueb : source.candidates.ueb ≡ u
  pub numbers_are : source.candidates.numbers ≡ numbers
  pub none_held : source.candidates.held ≡ replicate (length numbers) []
  pub none_struck : source.candidates.struck ≡ replicate (length numbers) false
  pub bytes_are : source.candidates.bytes ≡ bytes

-- the places at these positions
abbrev pub read_places : List SharePlace → List ℕ → List SharePlace
read_places places positions =
    flat_map (λ position. option_to_list (slice_get places position)) positions

-- All shares of a cap's file were made anew of those at these places. Reads of them brought their
-- extension block, which is the cap's. They were read once, and brought a padded ciphertext of the
-- file, whose roots are those that the block tells; by what is kept of it the shares are made again
-- as they are uploaded. Some of them are read then.
pub record AreMadeAnew {B : Type 0} (gives : Gives B) (fails : Fails B) (cap : VerifyCapValue)
    (happy : ℕ) (places : List SharePlace) (bytes : B) (made : Ready (RemadeStreaming (Decoding B)))
    (reading : List SharePlace) : Type 0 where
  pub extension_block : List ℕ
  pub u : Contents
  pub ueb : IsUebFor cap extension_block u
  pub source : Decoding B
  pub read : WasRead gives fails bytes source.candidates.bytes
  pub begun : IsBegun u (map (λ p. p.share) places) source.candidates.bytes source
  pub anew : IsRemadeFrom (GivesDecoded gives fails) source cap extension_block u
      made.pieces.remade made.pieces.source
  pub made_is : made ≡ ready_remade made.pieces happy
  pub reading_is : reading ≡ read_places places made.pieces.source.reading

-- memory was refused: for leaves or a decoder, which the last read wanted that failed, or for a
-- read of a share
abbrev pub lacks_memory : {G : Type 0} → Decoding (FetchedState G) → Bool
lacks_memory source = source.lacks_memory || source.candidates.bytes.lacks_memory

-- Why no piece was given, of shares that are made anew from a source which can lack memory: a read
-- of it that failed is told as want of memory exactly where memory was refused.
abbrev pub IsWhyNonePlaced : {S : Type 0} → (S → ℕ → List ℕ → S → Type 0) → (S → ℕ) → (S → Bool)
    → RemadeStreaming S → PieceFault → S → Type 0
IsWhyNonePlaced gives failures lacks old OutOfMemory new =
    HasFailedMore (failures old.source) (failures new) × (lacks new ≡ true)
IsWhyNonePlaced gives failures lacks old SourceChanged new =
    IsOfNoText gives old.remade old.source new
IsWhyNonePlaced gives failures lacks old SourceFault new =
    HasFailedMore (failures old.source) (failures new) × (lacks new ≡ false)

-- what is told of why no piece came: where a read failed, whether for want of memory
abbrev pub told_by : Bool → PieceFault → PieceFault
told_by true SourceFault = OutOfMemory
told_by lacks fault = fault

-- no piece was given, and what is kept stays
pub record GaveNonePlaced {S : Type 0} (gives : S → ℕ → List ℕ → S → Type 0) (failures : S → ℕ)
    (lacks : S → Bool) (old : RemadeStreaming S) (fault : PieceFault) (new : RemadeStreaming S)
    : Type 0 where
  pub kept : new.remade ≡ old.remade
  pub why : IsWhyNonePlaced gives failures lacks old fault new.source

-- the calls of an upload whose shares are made again of others
abbrev pub remade_calls : {S : Type 0} → (S → ℕ → List ℕ → S → Type 0) → (S → ℕ) → (S → Bool)
    → OperationCalls (Uploading (RemadeStreaming S))
remade_calls gives failures lacks = upload_calls
    (λ s share offset bytes after. GaveRemade gives s share offset bytes after)
    (λ s share offset len fault after. GaveNonePlaced gives failures lacks s fault after)
