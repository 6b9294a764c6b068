-- What was hashed for the pieces of a file.
use Rattle.std.specs.Prelude.{◌≡◌, ◌⊎◌, ℕ, List}
use Rattle.tagged_hash.specs.TaggedHash.{tagged_input}
use Rattle.tagged_hash.specs.declared.tag.Tag.TheVariants.{CiphertextSegment, ExtensionBlock}
use Rattle.merkle.specs.Known.{IsKnownInput}
use Rattle.cap_text.specs.Cap.{ReadCapValue, verify_cap_of}
use Rattle.share_verify.specs.CapBlock.{IsUebFor}
use Rattle.request_record.specs.declared.requests.Request.{Request}
use Rattle.download_segments.specs.Agreement.{IsGivenIn}
use Rattle.download_segments.specs.declared.piece.Piece.{Piece}
use Rattle.download_file.specs.State.{FileState}
use Rattle.download_file.specs.Answers.{IsGivenBy, IsMadeSegment, IsRead, KeepsAnswers}
use Rattle.download_file.specs.Changes.{IsSameFile}
use Rattle.download_file.specs.Right.{IsFile}

-- This was hashed for the file: a segment that was made, or a node of the ciphertext tree whose
-- children are known.
pub data IsHashed (entries : List Request) (f : FileState) (input : List ℕ) : Type 0 where
  segment : (number : ℕ) (bytes : List ℕ) → IsMadeSegment entries f number bytes
      → input ≡ tagged_input CiphertextSegment bytes → IsHashed entries f input
  node : IsKnownInput f.handout.trees.ciphertext input → IsHashed entries f input

-- that, or its extension block
abbrev pub IsHashedWith : List Request → FileState → List ℕ → List ℕ → Type 0
IsHashedWith entries f block input =
    (input ≡ tagged_input ExtensionBlock block) ⊎ IsHashed entries f input

-- a law: all that is hashed for a piece that is given was hashed for the file
abbrev pub GivenAreHashed : Type 0
GivenAreHashed = (entries : List Request) (f : FileState) (p : Piece) (cap : ReadCapValue)
    (block : List ℕ) → IsFile f → IsGivenBy entries f p → f.handout.key ≡ cap.key
    → IsUebFor (verify_cap_of cap) block f.handout.ueb
    → IsGivenIn (IsHashedWith entries f block) cap block f.handout.ueb p

-- a law: where answers stay and the file goes on, what was hashed for it stays so
abbrev pub HashedStays : Type 0
HashedStays = (old new : List Request) (f g : FileState) (input : List ℕ) → KeepsAnswers old new
    → IsRead old f → IsSameFile f g → IsHashed old f input → IsHashed new g input
