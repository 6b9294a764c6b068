-- What finished files have, and what is durable, where only names that pass and files that are not
-- finished were changed.
use Rattle.std.proofs.Common.{◌≡◌, ◌≢◌, inl, inr, ℕ, List, refl, sym, ◌∙◌, ap, subst}
use Rattle.std.specs.Prelude.{Option, Some, None, Bool, true, false, All, Result, Ok, Err}
use Rattle.std.proofs.lemmas.List.Elements.{All-weaker}
use Rattle.disks.specs.Names.{Name, lasts, Relied, IsRelied}
use Rattle.disks.specs.declared.error.DiskError.{DiskError}
use Rattle.disks.specs.Folder.{Folder, FileState, HasBytes, StandsFor, IsDurable, IsOwn}
use Rattle.disks.specs.Steps.{Creates, Changes, Spoils, Removes, SameName, OtherFilesStay}
use Rattle.disks.specs.Steps.{Finds, Lists, MaySyncFolder, Opens, ReadsAt, SyncsFolder}
use Rattle.disks.specs.Others.{IsUntouched, Others, Steps}
use Rattle.disks.specs.Calls.{Gives, Does, Either, Stays}
use Rattle.disks.specs.Laws.{FilesStay, StaysHeld}
use Rattle.disks.proofs.Durable.{stands_same}
use Rattle.disks.proofs.Kept.{folder_keep, may_folder_keep}
use Rattle.disks.proofs.OwnNames.{others_own}

pub differ : true ≡ false → ⊥
differ e = subst (λ (b : Bool). IsIt b) e tt
  where
    IsIt : Bool → Type 0
    IsIt true = Unit {0}
    IsIt false = ⊥

pub has_bytes : (s : Folder) (bytes : List ℕ) (o : Option ℕ) → StandsFor s bytes o → HasBytes s bytes o
has_bytes s bytes None stands = stands
has_bytes s bytes (Some i) stands = (ap (λ (f : FileState). f.bytes) stands, ap (λ (f : FileState). f.is_finished) stands)

pub has_same : (s t : Folder) (bytes : List ℕ) (o : Option ℕ) → ((j : ℕ) → (s.file j).is_finished ≡ true → t.file j ≡ s.file j)
    → HasBytes s bytes o → HasBytes t bytes o
has_same s t bytes None same has = has
has_same s t bytes (Some j) same has =
    let is = same j has.1 in
    (ap (λ (f : FileState). f.bytes) is ∙ has.0, ap (λ (f : FileState). f.is_finished) is ∙ has.1)

-- names that last are as they were, and so are finished files
pub held_where : {relied : Relied} (s t : Folder) → ((j : ℕ) → (s.file j).is_finished ≡ true → t.file j ≡ s.file j)
    → ((name : Name) → lasts name ≡ true → SameName s t name) → StaysHeld relied s t
held_where {relied} s t files names = record {
  names = λ name bytes lasting has. subst (HasBytes t bytes) (sym (names name lasting.0).found) (has_same s t bytes (s.found name) files has);
  files = λ i bytes has. has_same s t bytes (Some i) files has;
  durable = λ name bytes lasting durable. record {
    now = subst (StandsFor t bytes) (sym (names name lasting.0).found) (stands bytes (s.found name) durable.now);
    later = subst (λ (l : List (Option ℕ)). All (StandsFor t bytes) l) (sym (names name lasting.0).left)
        (All-weaker (StandsFor s bytes) (StandsFor t bytes) (stands bytes) (s.left name) durable.later);
  };
}
  where
    stands : (bytes : List ℕ) (o : Option ℕ) → StandsFor s bytes o → StandsFor t bytes o
    stands bytes o = stands_same s t bytes o (λ j _ finished _. files j finished)

pub held_same : {relied : Relied} (s : Folder) → StaysHeld relied s s
held_same {relied} s = record {
  names = λ name bytes lasting has. has;
  files = λ i bytes has. has;
  durable = λ name bytes lasting durable. durable;
}

pub held_on : {relied : Relied} (s t u : Folder) → StaysHeld relied s t → StaysHeld relied t u → StaysHeld relied s u
held_on {relied} s t u first then = record {
  names = λ name bytes lasting has. then.names name bytes lasting (first.names name bytes lasting has);
  files = λ i bytes has. then.files i bytes (first.files i bytes has);
  durable = λ name bytes lasting durable. then.durable name bytes lasting (first.durable name bytes lasting durable);
}

-- what finished files have they have still
pub others_files : {relied : Relied} (s t : Folder) → Others relied s t → FilesStay s t
others_files {relied} s t others i bytes has = at (others.finished i has.1)
  where
    at : IsUntouched (s.file i) (t.file i) → HasBytes t bytes (Some i)
    at (inl same) = (ap (λ (f : FileState). f.bytes) same ∙ has.0, ap (λ (f : FileState). f.is_finished) same ∙ has.1)
    at (inr synced) = (ap (λ (f : FileState). f.bytes) synced ∙ has.0, ap (λ (f : FileState). f.is_finished) synced ∙ has.1)

pub others_held : {relied : Relied} (s t : Folder) → Others relied s t → StaysHeld relied s t
others_held {relied} s t others = record {
  names = others.held;
  files = others_files s t others;
  durable = others.durable;
}

-- ---- steps

abbrev pub Holds : Relied → Folder → (Folder → Folder → Type 0) → Type 0
Holds relied s act = (u v : Folder) → Others relied s u → act u v → StaysHeld relied u v

pub steps_held : {relied : Relied} (act : Folder → Folder → Type 0) (s t : Folder) → Holds relied s act → Steps relied act s t → StaysHeld relied s t
steps_held {relied} act s t here steps =
    held_on s steps.before t (others_held s steps.before steps.first)
    (held_on steps.before steps.after t (here steps.before steps.after steps.first steps.step)
    (others_held steps.after t steps.then))

pub does_held : {relied : Relied} (ok err : Folder → Folder → Type 0) (r : Result Unit DiskError) (s t : Folder) → Holds relied s ok → Holds relied s err → Does relied ok err r s t → StaysHeld relied s t
does_held {relied} ok err (Ok u) s t well ill does = steps_held ok s t well does
does_held {relied} ok err (Err e) s t well ill does = steps_held err s t ill does

pub gives_held : {relied : Relied} {A : Type 0} (ok : A → Folder → Folder → Type 0) (err : Folder → Folder → Type 0) (r : Result A DiskError) (s t : Folder)
    → ((a : A) → Holds relied s (ok a)) → Holds relied s err → Gives relied ok err r s t → StaysHeld relied s t
gives_held {relied} ok err (Ok a) s t well ill gives = steps_held (ok a) s t (well a) gives
gives_held {relied} ok err (Err e) s t well ill gives = steps_held err s t ill gives

pub same_held : {relied : Relied} (u v : Folder) → v ≡ u → StaysHeld relied u v
same_held {relied} u v same = subst (λ (w : Folder). StaysHeld relied u w) (sym same) (held_same u)

pub stays_held : {relied : Relied} (s : Folder) → Holds relied s Stays
stays_held {relied} s u v others same = same_held u v same

pub either_held : {relied : Relied} (s : Folder) (one other : Folder → Folder → Type 0) → Holds relied s one → Holds relied s other → Holds relied s (Either one other)
either_held {relied} s one other first second u v others (inl a) = first u v others a
either_held {relied} s one other first second u v others (inr b) = second u v others b

-- an unfinished file was changed
beside : (u v : Folder) (i : ℕ) → (u.file i).is_finished ≡ false → OtherFilesStay i u v → (j : ℕ) → (u.file j).is_finished ≡ true → v.file j ≡ u.file j
beside u v i unfinished files j finished = files j (λ same. differ (sym finished ∙ ap (λ (k : ℕ). (u.file k).is_finished) same ∙ unfinished))

pub changes_held : {relied : Relied} (s : Folder) (own : Name) (i : ℕ) (f : FileState) (change : FileState → FileState)
    → IsOwn s own i f → f.is_finished ≡ false → Holds relied s (Changes i change)
changes_held {relied} s own i f change is unfinished u v others step =
    held_where u v (beside u v i (ap (λ (g : FileState). g.is_finished) (others_own s u own i f others is).file_is ∙ unfinished) step.files) (λ name lasting. step.names name)

pub spoils_held : {relied : Relied} (s : Folder) (own : Name) (i : ℕ) (f : FileState) → IsOwn s own i f → f.is_finished ≡ false → Holds relied s (Spoils i)
spoils_held {relied} s own i f is unfinished u v others step =
    held_where u v (beside u v i (ap (λ (g : FileState). g.is_finished) (others_own s u own i f others is).file_is ∙ unfinished) step.2.files) (λ name lasting. step.2.names name)

apart : (name other : Name) → lasts name ≡ false → lasts other ≡ true → other ≢ name
apart name other passing lasting same = differ (sym lasting ∙ ap lasts same ∙ passing)

pub creates_held : {relied : Relied} (s : Folder) (name : Name) (i : ℕ) → lasts name ≡ false → Holds relied s (Creates name i)
creates_held {relied} s name i passing u v others step =
    held_where u v (beside u v i step.new step.files) (λ other lasting. step.names other (apart name other passing lasting))

pub removes_held : {relied : Relied} (s : Folder) (name : Name) → lasts name ≡ false → Holds relied s (Removes name)
removes_held {relied} s name passing u v others step =
    held_where u v (λ j finished. step.files j) (λ other lasting. step.names other (apart name other passing lasting))

-- ---- calls, however they end

pub created_held : {relied : Relied} {F : Type 0} (inode : F → ℕ) (name : Name) (r : Result F DiskError) (s t : Folder) → lasts name ≡ false
    → Gives relied (λ (file : F). Creates name (inode file)) Stays r s t → StaysHeld relied s t
created_held {relied} inode name r s t passing = gives_held _ Stays r s t (λ file. creates_held s name (inode file) passing) (stays_held s)

finds_held : {relied : Relied} (s : Folder) (name : Name) (found : Option ℕ) → Holds relied s (Finds name found)
finds_held {relied} s name None u v others step = same_held u v step.0
finds_held {relied} s name (Some n) u v others step = same_held u v step.0

pub found_held : {relied : Relied} (name : Name) (r : Result (Option ℕ) DiskError) (s t : Folder) → Gives relied (Finds name) Stays r s t → StaysHeld relied s t
found_held {relied} name r s t = gives_held (Finds name) Stays r s t (finds_held s name) (stays_held s)

pub opened_held : {relied : Relied} {F : Type 0} (inode : F → ℕ) (name : Name) (r : Result F DiskError) (s t : Folder)
    → Gives relied (λ (file : F). Opens name (inode file)) Stays r s t → StaysHeld relied s t
opened_held {relied} inode name r s t = gives_held _ Stays r s t (λ file u v others step. same_held u v step.same) (stays_held s)

pub read_held : {relied : Relied} (i offset : ℕ) (bytes : List ℕ) (r : Result Unit DiskError) (s t : Folder) → Does relied (ReadsAt i offset bytes) Stays r s t → StaysHeld relied s t
read_held {relied} i offset bytes r s t = does_held (ReadsAt i offset bytes) Stays r s t (λ u v others step. same_held u v step.same) (stays_held s)

pub folder_held : {relied : Relied} {F : Type 0} (r : Result F DiskError) (s t : Folder) → Gives relied (λ (opened : F). Stays) Stays r s t → StaysHeld relied s t
folder_held {relied} r s t = gives_held _ Stays r s t (λ opened. stays_held s) (stays_held s)

pub listed_held : {relied : Relied} {L : Type 0} (names : L → List Name) (r : Result L DiskError) (s t : Folder)
    → Gives relied (λ (l : L). Lists (names l)) Stays r s t → StaysHeld relied s t
listed_held {relied} names r s t = gives_held _ Stays r s t (λ l u v others step. same_held u v step.same) (stays_held s)

-- a sync of the names changes no file and nothing that stands
names_held : {relied : Relied} (s t : Folder) → ((i : ℕ) → t.file i ≡ s.file i) → ((name : Name) → t.found name ≡ s.found name)
    → ((name : Name) (bytes : List ℕ) → IsRelied relied name bytes → IsDurable s name bytes → IsDurable t name bytes) → StaysHeld relied s t
names_held {relied} s t files found durable = record {
  names = λ name bytes lasting has. subst (HasBytes t bytes) (sym (found name)) (has_same s t bytes (s.found name) (λ j finished. files j) has);
  files = λ i bytes has. has_same s t bytes (Some i) (λ j finished. files j) has;
  durable = durable;
}

pub sync_names_held : {relied : Relied} (r : Result Unit DiskError) (s t : Folder) → Does relied SyncsFolder MaySyncFolder r s t → StaysHeld relied s t
sync_names_held {relied} r s t =
    does_held SyncsFolder MaySyncFolder r s t
    (λ u v others step. names_held u v step.files step.found (λ name bytes lasting. folder_keep name bytes s u v others step name bytes lasting (λ same. refl)))
    (λ u v others step. names_held u v step.files step.found (λ name bytes lasting. may_folder_keep name bytes s u v others step name bytes lasting (λ same. refl)))
