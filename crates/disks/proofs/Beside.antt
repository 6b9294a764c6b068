-- A rename of a file of one's own, whose bytes need not be on the disk.
use Rattle.std.proofs.Common.{◌≡◌, inl, inr, ⊎_elim, ℕ, List, refl, sym, ◌∙◌, ap, subst}
use Rattle.std.specs.Prelude.{Option, Some, None, Bool, true, false, Result, Ok, Err, OnOk}
use Rattle.disks.specs.declared.error.DiskError.{DiskError}
use Rattle.disks.specs.Names.{Name, Relied, IsRelied}
use Rattle.disks.specs.Folder.{Folder, FileState, HasBytes, StandsFor, IsOwn}
use Rattle.disks.specs.Steps.{Renames}
use Rattle.disks.specs.Others.{Others}
use Rattle.disks.specs.Calls.{Does, Either, Stays}
use Rattle.disks.specs.Laws.{KeepsBeside}
use Rattle.disks.proofs.Held.{differ, others_held}
use Rattle.disks.proofs.Kept.{durable_beside, same_or_not}
use Rattle.disks.proofs.OwnNames.{others_own}

file_at : (s : Folder) (a b : ℕ) (f : FileState) → Some a ≡ Some b → s.file b ≡ f → s.file a ≡ f
file_at s a b f same is = subst (λ (o : Option ℕ). FileOf s f o) (sym same) is
  where
    FileOf : Folder → FileState → Option ℕ → Type 0
    FileOf s f None = ⊥
    FileOf s f (Some k) = s.file k ≡ f

abbrev open_file : List ℕ → Bool → FileState
open_file bytes synced = record { bytes = bytes; is_synced = synced; is_finished = false }

-- the file under the own name, where others did something first
renamed_file : {relied : Relied} (from to : Name) (s u v : Folder) (i : ℕ) (bytes : List ℕ) (synced : Bool) → Others relied s u → (step : Renames from to u v)
    → IsOwn s from i (open_file bytes synced) → u.file step.inode ≡ open_file bytes synced
renamed_file {relied} from to s u v i bytes synced others step own =
    let is = others_own s u from i (open_file bytes synced) others own in
    file_at u step.inode i (open_file bytes synced) (sym step.was ∙ is.found) is.file_is

pub renames_held : (relied : Relied) (from to : Name) (r : Result Unit DiskError) (s t : Folder) (i : ℕ) (bytes : List ℕ) (synced : Bool) → IsRelied relied to bytes
    → Does relied (Renames from to) (Either Stays (Renames from to)) r s t → IsOwn s from i (open_file bytes synced)
    → OnOk r (HasBytes t bytes (t.found to))
renames_held relied from to (Err e) s t i bytes synced lasting does own = tt
renames_held relied from to (Ok u) s t i bytes synced lasting does own =
    let step = does.step in
    let file = step.file ∙ ap (λ (f : FileState). record f { is_finished = true }) (renamed_file from to s does.before does.after i bytes synced does.first step own) in
    (others_held does.after t does.then).names to bytes lasting
    (subst (HasBytes does.after bytes) (sym step.found) (ap (λ (f : FileState). f.bytes) file, ap (λ (f : FileState). f.is_finished) file))

others_beside : {relied : Relied} (last : Name) (s t : Folder) → Others relied s t → KeepsBeside relied last s t
others_beside {relied} last s t others name kept lasting apart durable = others.durable name kept lasting durable

beside_on : {relied : Relied} (last : Name) (s t u : Folder) → KeepsBeside relied last s t → KeepsBeside relied last t u → KeepsBeside relied last s u
beside_on {relied} last s t u first then name kept lasting apart durable = then name kept lasting apart (first name kept lasting apart durable)

rename_beside : {relied : Relied} (from to : Name) (s u v : Folder) (i : ℕ) (bytes : List ℕ) (synced : Bool) → Others relied s u → Renames from to u v
    → IsOwn s from i (open_file bytes synced) → KeepsBeside relied to u v
rename_beside {relied} from to s u v i bytes synced others step own name kept lasting apart durable =
    ⊎_elim (λ same. absurd (at_from same)) (λ other. durable_beside u v step.inode _ name kept (renamed_file from to s u v i bytes synced others step own) refl step.files (step.names name other apart) durable)
    (same_or_not name from)
  where
    is : IsOwn u from i (open_file bytes synced)
    is = others_own s u from i (open_file bytes synced) others own

    -- the own name is not durable, since its file is not finished
    at_from : name ≡ from → ⊥
    at_from same = unfinished (subst (StandsFor u kept) (ap u.found same ∙ is.found) durable.now)
      where
        unfinished : StandsFor u kept (Some i) → ⊥
        unfinished stands = differ (sym (ap (λ (f : FileState). f.is_finished) stands) ∙ ap (λ (f : FileState). f.is_finished) is.file_is)

step_beside : {relied : Relied} (from to : Name) (s u v : Folder) (i : ℕ) (bytes : List ℕ) (synced : Bool) → Others relied s u → Either Stays (Renames from to) u v
    → IsOwn s from i (open_file bytes synced) → KeepsBeside relied to u v
step_beside {relied} from to s u v i bytes synced others (inl same) own = subst (λ (w : Folder). KeepsBeside relied to u w) (sym same) (λ name kept lasting apart durable. durable)
step_beside {relied} from to s u v i bytes synced others (inr step) own = rename_beside from to s u v i bytes synced others step own

around : {relied : Relied} (last : Name) (s u v t : Folder) → Others relied s u → KeepsBeside relied last u v → Others relied v t → KeepsBeside relied last s t
around {relied} last s u v t first here then = beside_on last s u t (others_beside last s u first) (beside_on last u v t here (others_beside last v t then))

pub renames_beside : (relied : Relied) (from to : Name) (r : Result Unit DiskError) (s t : Folder) (i : ℕ) (bytes : List ℕ) (synced : Bool)
    → Does relied (Renames from to) (Either Stays (Renames from to)) r s t → IsOwn s from i (open_file bytes synced) → KeepsBeside relied to s t
renames_beside relied from to (Ok u) s t i bytes synced does own =
    around to s does.before does.after t does.first (rename_beside from to s does.before does.after i bytes synced does.first does.step own) does.then
renames_beside relied from to (Err e) s t i bytes synced does own =
    around to s does.before does.after t does.first (step_beside from to s does.before does.after i bytes synced does.first does.step own) does.then
