-- What was hashed to test what was read of a file.
use Rattle.std.specs.Prelude.{◌≡◌, ℕ, List, Some}
use Rattle.tagged_hash.specs.TaggedHash.{tagged_input}
use Rattle.tagged_hash.specs.declared.tag.Tag.TheVariants.{Block}
use Rattle.merkle.specs.Known.{IsKnownInput}
use Rattle.merkle.specs.Partial.{PartialState}
use Rattle.request_record.specs.declared.requests.Request.{Request}
use Rattle.download_segments.specs.NoCodeWord.{IsNoCodeWordIn}
use Rattle.download_file.specs.State.{FileState, IsReader, ReaderState}
use Rattle.download_file.specs.Answers.{HasRightBlock, IsRead, KeepsAnswers, block_of}
use Rattle.download_file.specs.Changes.{IsSameFile}
use Rattle.download_file.specs.Making.{IsInconsistent}
use Rattle.download_file.specs.Right.{IsFile}

-- This was hashed to test what was read of the file: a right block that a reader holds, or a node
-- whose children are known, of the share tree, of the ciphertext tree or of a reader's block tree.
pub data IsTested (entries : List Request) (f : FileState) (input : List ℕ) : Type 0 where
  right_block : (reader : ℕ) (r : ReaderState) (number : ℕ) → IsReader f reader r
      → HasRightBlock entries r number
      → input ≡ tagged_input Block (block_of entries r.supply number) → IsTested entries f input
  share_node : IsKnownInput f.handout.trees.shares input → IsTested entries f input
  ciphertext_node : IsKnownInput f.handout.trees.ciphertext input → IsTested entries f input
  block_node : (reader : ℕ) (r : ReaderState) (tree : PartialState) → IsReader f reader r
      → r.supply.tree ≡ Some tree → IsKnownInput tree input → IsTested entries f input

-- a law: where a file is inconsistent, what was tested of it tells that it is no code word
abbrev pub InconsistentIsNoCodeWord : Type 0
InconsistentIsNoCodeWord = (entries : List Request) (f : FileState) → IsFile f → IsRead entries f
    → IsInconsistent entries f → IsNoCodeWordIn (IsTested entries f) f.handout.ueb

-- a law: where answers stay and the file goes on, what was tested of it stays so
abbrev pub TestedStays : Type 0
TestedStays = (old new : List Request) (f g : FileState) (input : List ℕ) → KeepsAnswers old new
    → IsRead old f → IsSameFile f g → IsTested old f input → IsTested new g input
