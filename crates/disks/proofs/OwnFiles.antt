-- Files of this program's own, beside what a call changes.
use Rattle.std.proofs.Common.{◌≡◌, ◌≢◌, inl, inr, ℕ, List, sym, ◌∙◌, ap, subst}
use Rattle.std.specs.Prelude.{Option, Some, true, false, Result, Ok, Err, IfOk}
use Rattle.disks.specs.Names.{Name, lasts, Relied}
use Rattle.disks.specs.Folder.{Folder, FileState, IsOwn}
use Rattle.disks.specs.Steps.{Changes, Creates, Finds, Lists, MaySyncFolder, Opens, ReadsAt, Removes, Renames, Spoils, SyncsFolder}
use Rattle.disks.specs.Others.{Steps}
use Rattle.disks.specs.Calls.{Does, Either, Gives, Stays}
use Rattle.disks.specs.Laws.{OwnStay, OwnStayBeside, OwnStayBut}
use Rattle.disks.specs.declared.error.DiskError.{DiskError}
use Rattle.disks.proofs.OwnNames.{others_own, stays_own}
use Rattle.disks.proofs.Held.{differ}

abbrev one_number : Option ℕ → ℕ
one_number (Some i) = i
one_number _ = 0

-- ---- what changes nothing

-- a step after which nothing else is so
still_own : {relied : Relied} (act : Folder → Folder → Type 0) → ((u v : Folder) → act u v → v ≡ u) → (s t : Folder) → Steps relied act s t → OwnStay s t
still_own {relied} act same s t steps name i f own =
    others_own steps.after t name i f steps.then
    (subst (λ (u : Folder). IsOwn u name i f) (sym (same steps.before steps.after steps.step)) (others_own s steps.before name i f steps.first own))

gives_own : (relied : Relied) {A : Type 0} (ok : A → Folder → Folder → Type 0) → ((a : A) (u v : Folder) → ok a u v → v ≡ u) → (r : Result A DiskError) (s t : Folder)
    → Gives relied ok Stays r s t → OwnStay s t
gives_own relied ok same (Ok a) s t gives = still_own (ok a) (same a) s t gives
gives_own relied ok same (Err e) s t gives = λ name i f own. stays_own s t name i f gives own

found_same : (name : Name) (found : Option ℕ) (u v : Folder) → Finds name found u v → v ≡ u
found_same name (Some n) u v step = step.0
found_same name _ u v step = step.0

pub found_own : (relied : Relied) (name : Name) (r : Result (Option ℕ) DiskError) (s t : Folder) → Gives relied (Finds name) Stays r s t → OwnStay s t
found_own relied name = gives_own relied (Finds name) (found_same name)

pub opened_own : (relied : Relied) {F : Type 0} (inode : F → ℕ) (name : Name) (r : Result F DiskError) (s t : Folder)
    → Gives relied (λ (file : F). Opens name (inode file)) Stays r s t → OwnStay s t
opened_own relied {F} inode name = gives_own relied (λ (file : F). Opens name (inode file)) (λ file u v step. step.same)

pub read_own : (relied : Relied) (i offset : ℕ) (bytes : List ℕ) (r : Result Unit DiskError) (s t : Folder) → Does relied (ReadsAt i offset bytes) Stays r s t → OwnStay s t
read_own relied i offset bytes (Ok u) s t does = still_own (ReadsAt i offset bytes) (λ u v step. step.same) s t does
read_own relied i offset bytes (Err e) s t does = λ name i f own. stays_own s t name i f does own

pub listed_own : (relied : Relied) {L : Type 0} (names : L → List Name) (r : Result L DiskError) (s t : Folder)
    → Gives relied (λ (l : L). Lists (names l)) Stays r s t → OwnStay s t
listed_own relied {L} names = gives_own relied (λ (l : L). Lists (names l)) (λ l u v step. step.same)

pub folder_own : (relied : Relied) {F : Type 0} (r : Result F DiskError) (s t : Folder) → Gives relied (λ (opened : F). Stays) Stays r s t → OwnStay s t
folder_own relied {F} = gives_own relied (λ (opened : F). Stays) (λ opened u v step. step)

synced_own : {relied : Relied} (act : Folder → Folder → Type 0) → ((u v : Folder) → act u v → ((name : Name) → v.own name ≡ u.own name)
    × ((name : Name) → v.found name ≡ u.found name) × ((i : ℕ) → v.file i ≡ u.file i)) → (s t : Folder) → Steps relied act s t → OwnStay s t
synced_own {relied} act same s t steps name i f own =
    let u = others_own s steps.before name i f steps.first own in
    let at = same steps.before steps.after steps.step in
    others_own steps.after t name i f steps.then (record {
      own = at.0 name ∙ u.own;
      found = at.1 name ∙ u.found;
      file_is = at.2 i ∙ u.file_is;
    })

pub sync_folder_own : (relied : Relied) (r : Result Unit DiskError) (s t : Folder) → Does relied SyncsFolder MaySyncFolder r s t → OwnStay s t
sync_folder_own relied (Ok u) s t does = synced_own SyncsFolder (λ u v step. (step.own, step.found, step.files)) s t does
sync_folder_own relied (Err e) s t does = synced_own MaySyncFolder (λ u v step. (step.own, step.found, step.files)) s t does

-- ---- what changes one file, or one name

beside_changed : (i : ℕ) (u v : Folder) → ((j : ℕ) → j ≢ i → v.file j ≡ u.file j) → ((name : Name) → v.found name ≡ u.found name)
    → ((name : Name) → v.own name ≡ u.own name) → (name : Name) (j : ℕ) (f : FileState) → j ≢ i → IsOwn u name j f → IsOwn v name j f
beside_changed i u v files found owned name j f apart own = record {
  own = owned name ∙ own.own;
  found = found name ∙ own.found;
  file_is = files j apart ∙ own.file_is;
}

changes_but : {relied : Relied} (i : ℕ) (change : FileState → FileState) (s t : Folder) → Steps relied (Changes i change) s t → OwnStayBut i s t
changes_but {relied} i change s t steps name j f passing apart own =
    others_own steps.after t name j f steps.then
    (beside_changed i steps.before steps.after steps.step.files (λ n. (steps.step.names n).found) (λ n. (steps.step.names n).own) name j f apart
    (others_own s steps.before name j f steps.first own))

spoils_but : {relied : Relied} (i : ℕ) (s t : Folder) → Steps relied (Spoils i) s t → OwnStayBut i s t
spoils_but {relied} i s t steps name j f passing apart own =
    others_own steps.after t name j f steps.then
    (beside_changed i steps.before steps.after steps.step.2.files (λ n. (steps.step.2.names n).found) (λ n. (steps.step.2.names n).own) name j f apart
    (others_own s steps.before name j f steps.first own))

pub changed_but : (relied : Relied) (i : ℕ) (change : FileState → FileState) (r : Result Unit DiskError) (s t : Folder) → Does relied (Changes i change) (Spoils i) r s t → OwnStayBut i s t
changed_but relied i change (Ok u) s t does = changes_but i change s t does
changed_but relied i change (Err e) s t does = spoils_but i s t does

beside_created : (name : Name) (i : ℕ) (u v : Folder) → Creates name i u v → (other : Name) (j : ℕ) (f : FileState) → other ≢ name → IsOwn u other j f → IsOwn v other j f
beside_created name i u v step other j f apart own =
    let at = step.names other apart in
    record {
      own = at.own ∙ own.own;
      found = at.found ∙ own.found;
      file_is = step.files j (λ same. step.fresh other (own.found ∙ ap Some same)) ∙ own.file_is;
    }

pub created_beside : (relied : Relied) {F : Type 0} (inode : F → ℕ) (name : Name) (r : Result F DiskError) (s t : Folder)
    → Gives relied (λ (file : F). Creates name (inode file)) Stays r s t → OwnStayBeside name s t
created_beside relied inode name (Ok file) s t gives other j f apart own =
    others_own gives.after t other j f gives.then
    (beside_created name (inode file) gives.before gives.after gives.step other j f apart (others_own s gives.before other j f gives.first own))
created_beside relied inode name (Err e) s t gives other j f apart own = stays_own s t other j f gives own

-- a new file is none of them
pub created_apart : (relied : Relied) {F : Type 0} (inode : F → ℕ) (name : Name) (r : Result F DiskError) (s t : Folder)
    → Gives relied (λ (file : F). Creates name (inode file)) Stays r s t
    → IfOk r (λ (file : F). (other : Name) (j : ℕ) (f : FileState) → other ≢ name → IsOwn s other j f → j ≢ inode file)
created_apart relied inode name (Err e) s t gives = tt
created_apart relied inode name (Ok file) s t gives = λ other j f apart own same.
    gives.step.fresh other ((others_own s gives.before other j f gives.first own).found ∙ ap Some same)

-- and of those that there were before
pub if_before : {F : Type 0} (inode : F → ℕ) (name : Name) (r : Result F DiskError) (s m : Folder) → OwnStayBeside name s m
    → IfOk r (λ (file : F). (other : Name) (j : ℕ) (f : FileState) → other ≢ name → IsOwn m other j f → j ≢ inode file)
    → IfOk r (λ (file : F). (other : Name) (j : ℕ) (f : FileState) → other ≢ name → IsOwn s other j f → j ≢ inode file)
if_before inode name (Err e) s m stay is = tt
if_before inode name (Ok file) s m stay is = λ other j f apart own. is other j f apart (stay other j f apart own)

beside_removed : (name : Name) (u v : Folder) → Removes name u v → (other : Name) (j : ℕ) (f : FileState) → other ≢ name → IsOwn u other j f → IsOwn v other j f
beside_removed name u v step other j f apart own =
    let at = step.names other apart in
    record { own = at.own ∙ own.own; found = at.found ∙ own.found; file_is = step.files j ∙ own.file_is }

either_removed : (name : Name) (u v : Folder) → Either Stays (Removes name) u v → (other : Name) (j : ℕ) (f : FileState) → other ≢ name → IsOwn u other j f → IsOwn v other j f
either_removed name u v (inl same) other j f apart own = subst (λ (w : Folder). IsOwn w other j f) (sym same) own
either_removed name u v (inr step) other j f apart own = beside_removed name u v step other j f apart own

pub removed_beside : (relied : Relied) (name : Name) (r : Result Unit DiskError) (s t : Folder) → Does relied (Removes name) (Either Stays (Removes name)) r s t → OwnStayBeside name s t
removed_beside relied name (Ok u) s t does other j f apart own =
    others_own does.after t other j f does.then
    (beside_removed name does.before does.after does.step other j f apart (others_own s does.before other j f does.first own))
removed_beside relied name (Err e) s t does other j f apart own =
    others_own does.after t other j f does.then
    (either_removed name does.before does.after does.step other j f apart (others_own s does.before other j f does.first own))

-- the own file was renamed, and others have other names and are other files
beside_renamed : (from to : Name) (i : ℕ) (file : FileState) (u v : Folder) → lasts to ≡ true → IsOwn u from i file → Renames from to u v
    → (name : Name) (j : ℕ) (f : FileState) → lasts name ≡ false → j ≢ i → IsOwn u name j f → IsOwn v name j f
beside_renamed from to i file u v lasting is step name j f passing apart own =
    let not_from : name ≢ from = λ same. apart (ap one_number (sym own.found ∙ ap u.found same ∙ is.found)) in
    let not_to : name ≢ to = λ same. differ (sym lasting ∙ ap lasts (sym same) ∙ passing) in
    let inode : step.inode ≡ i = ap one_number (sym step.was ∙ is.found) in
    let at = step.names name not_from not_to in
    record {
      own = at.own ∙ own.own;
      found = at.found ∙ own.found;
      file_is = step.files j (λ same. apart (same ∙ inode)) ∙ own.file_is;
    }

either_renamed : (from to : Name) (i : ℕ) (file : FileState) (u v : Folder) → lasts to ≡ true → IsOwn u from i file → Either Stays (Renames from to) u v
    → (name : Name) (j : ℕ) (f : FileState) → lasts name ≡ false → j ≢ i → IsOwn u name j f → IsOwn v name j f
either_renamed from to i file u v lasting is (inl same) name j f passing apart own = subst (λ (w : Folder). IsOwn w name j f) (sym same) own
either_renamed from to i file u v lasting is (inr step) name j f passing apart own = beside_renamed from to i file u v lasting is step name j f passing apart own

pub renamed_but : (relied : Relied) (from to : Name) (i : ℕ) (file : FileState) (r : Result Unit DiskError) (s t : Folder) → lasts to ≡ true → IsOwn s from i file
    → Does relied (Renames from to) (Either Stays (Renames from to)) r s t → OwnStayBut i s t
renamed_but relied from to i file (Ok u) s t lasting is does name j f passing apart own =
    others_own does.after t name j f does.then
    (beside_renamed from to i file does.before does.after lasting (others_own s does.before from i file does.first is) does.step name j f passing apart
    (others_own s does.before name j f does.first own))
renamed_but relied from to i file (Err e) s t lasting is does name j f passing apart own =
    others_own does.after t name j f does.then
    (either_renamed from to i file does.before does.after lasting (others_own s does.before from i file does.first is) does.step name j f passing apart
    (others_own s does.before name j f does.first own))
