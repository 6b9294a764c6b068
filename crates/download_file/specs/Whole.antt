-- Whole files: what the pieces that were given of one are together.
use Rattle.std.specs.Prelude.{◌≡◌, ℕ, ◌<◌, List, All, length}
use Rattle.std.specs.List.{flat_map}
use Rattle.aes_ctr.specs.CounterMode.{xored}
use Rattle.merkle.specs.Tree.{tree_root}
use Rattle.request_record.specs.declared.requests.Request.{Request}
use Rattle.share_layout.specs.Geometry.{segment_count}
use Rattle.share_layout.specs.Pieces.{segment_at, segments_of}
use Rattle.share_verify.specs.CapBlock.{geometry_by}
use Rattle.proved_parts.specs.FileOf.{segment_hashes}
use Rattle.download_segments.specs.Pieces.{AreConsecutive}
use Rattle.download_segments.specs.declared.piece.Piece.{Piece}
use Rattle.download_file.specs.State.{FileState}
use Rattle.download_file.specs.Answers.{IsGivenBy, IsMadeSegment}
use Rattle.download_file.specs.Right.{IsFile}

-- the bytes of pieces, one after another
abbrev pub joined : List Piece → List ℕ
joined pieces = flat_map (λ (p : Piece). p.bytes) pieces

-- This is the ciphertext of the file: it is as long as the file, each of its segments was made, and
-- the root of the tree over their hashes is the one that the extension block tells.
pub record IsCiphertextOf (entries : List Request) (f : FileState) (ciphertext : List ℕ)
    : Type 0 where
  pub size : length ciphertext ≡ f.handout.ueb.size
  pub made : (number : ℕ) → number < segment_count (geometry_by f.handout.ueb)
      → IsMadeSegment entries f number (segment_at (geometry_by f.handout.ueb) number ciphertext)
  pub root : tree_root (segment_hashes (segments_of (geometry_by f.handout.ueb) ciphertext))
      ≡ f.handout.ueb.crypttext_root_hash

-- the bytes are its ciphertext, decrypted
pub record IsWholeFile (entries : List Request) (f : FileState) (bytes : List ℕ) : Type 0 where
  pub ciphertext : List ℕ
  pub of_file : IsCiphertextOf entries f ciphertext
  pub decrypted : bytes ≡ xored f.handout.key ciphertext

-- a law: so are the pieces that were given of the file, from its first byte to its last
abbrev pub WholeFiles : Type 0
WholeFiles = (entries : List Request) (f : FileState) (pieces : List Piece) → IsFile f
    → All (IsGivenBy entries f) pieces → AreConsecutive 0 pieces f.handout.ueb.size
    → IsWholeFile entries f (joined pieces)

-- a law: what is made of the blocks of a segment is one thing
abbrev pub SegmentsAreMadeOnce : Type 0
SegmentsAreMadeOnce = (entries : List Request) (f : FileState) (number : ℕ) (s t : List ℕ)
    → IsFile f → IsMadeSegment entries f number s → IsMadeSegment entries f number t → s ≡ t
