-- Where the bytes of a world's uploads come from: shares in memory, or a source that may change.
use Rattle.std.specs.Prelude.{◌≡◌, ℕ, List, length, map}
use Rattle.tagged_hash.specs.TaggedHash.{share_digest}
use Rattle.sources.specs.Texts.{GivesChanging}
use Rattle.file_streaming.specs.Prepared.{share_length}
use Rattle.upload_core.specs.declared.pieces.PieceFault.{PieceFault}
use Rattle.upload_core.specs.Pieces.{length_of, piece_of}
use Rattle.upload_core.specs.Ready.{Ready}
use Rattle.file_upload.specs.Streamed.{GaveBytes, GaveNone}
use Rattle.world_operations.specs.declared.upload_pieces.UploadPieces.{UploadPieces}
use Rattle.world_operations.specs.declared.upload_pieces.UploadPieces.TheVariants.{Whole, Streamed}

-- the digests of the shares, by number
abbrev pub digests_of : UploadPieces → List (List ℕ)
digests_of (Whole shares) = map share_digest shares
digests_of (Streamed s) = s.kept.digests

-- the length that all of them have
abbrev pub share_length_of : UploadPieces → ℕ
share_length_of (Whole shares) = length_of shares
share_length_of (Streamed s) = share_length s.kept

-- the bytes of a share from an offset on were given
abbrev pub gives : UploadPieces → ℕ → ℕ → List ℕ → UploadPieces → Type 0
gives (Whole old) share offset bytes (Whole new) =
    (bytes ≡ piece_of old share offset (length bytes)) × (new ≡ old)
gives (Streamed old) share offset bytes (Streamed new) =
    GaveBytes GivesChanging old share offset bytes new
gives old share offset bytes new = ⊥

-- none were given: shares in memory always give some, and a source that changes never fails
abbrev pub fails : UploadPieces → ℕ → ℕ → ℕ → PieceFault → UploadPieces → Type 0
fails (Streamed old) share offset len fault (Streamed new) =
    GaveNone GivesChanging (λ source. 0) old fault new
fails old share offset len fault new = ⊥

-- the same upload, whose pieces are taken as those of a world
abbrev pub ready_with : {P : Type 0} → Ready P → (P → UploadPieces) → Ready UploadPieces
ready_with r taken = record { pieces = taken r.pieces; goal = r.goal; happy = r.happy }
