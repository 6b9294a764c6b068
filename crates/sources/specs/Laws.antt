-- What holds of passes.
use Rattle.std.specs.Prelude.{◌≡◌, ◌≢◌, ℕ, List, length}
use Rattle.sources.specs.Source.{IsPass}
use Rattle.sources.specs.Change.{HasChanged}
use Rattle.sources.specs.Texts.{Changing, GivesChanging, GivesText, read_once, text_of}

-- a law: where two passes brought different bytes, two reads of one offset did
abbrev pub UnlikePassesDiffer : {S : Type 0} → (S → ℕ → List ℕ → S → Type 0) → Type 0
UnlikePassesDiffer gives = (size : ℕ) (old mid new : _) (first second : List ℕ)
    → IsPass gives size old first mid → IsPass gives size mid second new → first ≢ second
    → HasChanged gives old size new

-- a law: a pass over a text brings it
abbrev pub TextsStay : Type 0
TextsStay = (text file new : List ℕ) → IsPass GivesText (length text) text file new
    → (file ≡ text) × (new ≡ text)

-- a law: a pass over a source that changes brings the text that stands first, and then the other
abbrev pub ChangesAreBrought : Type 0
ChangesAreBrought = (old new : Changing) (file : List ℕ) → length old.other ≡ length old.file
    → IsPass GivesChanging (length old.file) old file new
    → (file ≡ text_of old) × (new ≡ read_once old)
