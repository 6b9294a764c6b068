-- What is found in a folder that is listed, and what stays so meanwhile.
use Rattle.std.proofs.Common.{◌≡◌, inl, inr, ℕ, List, map, sym, ap, ◌∙◌, subst}
use Rattle.std.specs.Prelude.{Some, Result, Ok, Err, IfOk, Vec, String}
use Rattle.std.specs.String.{string_bytes}
use Rattle.std.specs.declared.alloc.Global.{Global}
use Rattle.disks.specs.declared.error.DiskError.{DiskError}
use Rattle.disks.specs.Names.{Name, Relied}
use Rattle.disks.specs.Folder.{Folder, FileState, HasBytes, StandsFor}
use Rattle.disks.specs.Steps.{Lists}
use Rattle.disks.specs.Others.{IsUntouched, Others, Steps}
use Rattle.disks.specs.Calls.{Gives, Stays}
use Rattle.disks.specs.Laws.{StaysHeld}
use Rattle.share_folders.specs.Listed.{AreListed, StayStanding}
use Rattle.share_folders.proofs.Closings.{held_on}

abbrev pub Texts : Type 0
Texts = Vec (String Global) Global

abbrev pub Listed : Relied → Result Texts DiskError → Folder → Folder → Type 0
Listed relied = Gives relied (λ (names : Texts). Lists (map string_bytes names.items)) Stays

pub all_listed : (relied : Relied) (r : Result Texts DiskError) (s t : Folder) → Listed relied r s t → IfOk r (λ (names : Texts). AreListed relied (map string_bytes names.items) s)
all_listed relied (Ok names) s t gives = λ name bytes lasting has. gives.step.all name bytes lasting.0 (gives.first.held name bytes lasting has)
all_listed relied (Err e) s t gives = tt

untouched : (s t : Folder) (i : ℕ) (bytes : List ℕ) → IsUntouched (s.file i) (t.file i) → HasBytes s bytes (Some i) → HasBytes t bytes (Some i)
untouched s t i bytes (inl same) has = (ap (λ (f : FileState). f.bytes) same ∙ has.0, ap (λ (f : FileState). f.is_finished) same ∙ has.1)
untouched s t i bytes (inr synced) has = (ap (λ (f : FileState). f.bytes) synced ∙ has.0, ap (λ (f : FileState). f.is_finished) synced ∙ has.1)

others_held : {relied : Relied} (s t : Folder) → Others relied s t → StaysHeld relied s t
others_held {relied} s t others = record {
  names = others.held;
  files = λ i bytes has. untouched s t i bytes (others.finished i has.1) has;
  durable = others.durable;
}

-- ---- a step that changes nothing

unchanged_held : {relied : Relied} (act : Folder → Folder → Type 0) (s t : Folder) (steps : Steps relied act s t) → steps.after ≡ steps.before → StaysHeld relied s t
unchanged_held {relied} act s t steps same =
    held_on s steps.before t (others_held s steps.before steps.first) (subst (λ (u : Folder). StaysHeld relied u t) same (others_held steps.after t steps.then))

unchanged_stand : {relied : Relied} (act : Folder → Folder → Type 0) (s t : Folder) (steps : Steps relied act s t) → steps.after ≡ steps.before → StayStanding relied s t
unchanged_stand {relied} act s t steps same name bytes lasting stands =
    steps.then.settled name bytes lasting (subst (λ (u : Folder). StandsFor u bytes (u.found name)) (sym same) (steps.first.settled name bytes lasting stands))

pub listed_held : (relied : Relied) (r : Result Texts DiskError) (s t : Folder) → Listed relied r s t → StaysHeld relied s t
listed_held relied (Ok names) s t gives = unchanged_held _ s t gives gives.step.same
listed_held relied (Err e) s t gives = unchanged_held _ s t gives gives.step

pub listed_stand : (relied : Relied) (r : Result Texts DiskError) (s t : Folder) → Listed relied r s t → StayStanding relied s t
listed_stand relied (Ok names) s t gives = unchanged_stand _ s t gives gives.step.same
listed_stand relied (Err e) s t gives = unchanged_stand _ s t gives gives.step
