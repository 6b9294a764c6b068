-- What a put keeps of an earlier catalogue.
use Rattle.std.specs.Prelude.{◌≡◌, ℕ, List, Option, None, Some, ⊤}
use Rattle.cap_text.specs.declared.cap.Cap.{Cap}
use Rattle.catalogues.specs.Kept.{IsKept}
use Rattle.catalogues.specs.Known.{IsKnownFrom, cap_of}
use Rattle.catalogues.specs.declared.head.Head.{Head}
use Rattle.catalogues.specs.declared.kept.FileState.{FileState}
use Rattle.catalogues.specs.declared.known.Known.{Known}
use Rattle.grid_words.specs.declared.words.PutWords.{PutWords}

-- a path is named just where a catalogue is known, which is that of some text
abbrev pub IsTold : {P : Type 0} → Option P → Option Known → Type 0
IsTold None None = ⊤
IsTold None (Some known) = ⊥
IsTold (Some path) None = ⊥
IsTold (Some path) (Some known) = (text : List ℕ) × IsKnownFrom text known

-- the catalogue of these words, where they name one
abbrev pub IsSince : PutWords → Option Known → Type 0
IsSince words since = IsTold words.since since

-- A catalogue is known, its last line of this name has this cap, and that is kept in one that
-- begins so, by the size and the times of the file. Which these are is what the system says.
pub record IsKeptSince (since : Option Known) (head : Head) (name : List ℕ) (cap : Cap)
    : Type 0 where
  pub known : Known
  pub is : since ≡ Some known
  pub cap_is : cap_of known name ≡ Some cap
  pub file : FileState
  pub kept : IsKept known.head head cap file
