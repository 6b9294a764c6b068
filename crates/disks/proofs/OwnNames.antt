-- A name of this program's own through its calls.
use Rattle.std.proofs.Common.{◌≡◌, ◌≢◌, inl, inr, ℕ, List, [], sym, ◌∙◌, ap, subst}
use Rattle.std.specs.Prelude.{Option, Some, None, true, false, All, Result, Ok, Err}
use Rattle.std.proofs.lemmas.List.Elements.{All-cons, All-nil}
use Rattle.disks.specs.Names.{Name, Relied, IsRelied}
use Rattle.disks.specs.Folder.{Folder, FileState, StandsFor, IsDurable, IsOwn}
use Rattle.disks.specs.Steps.{Changes, Links, MaySyncFolder, Removes, Renames, SyncsFolder}
use Rattle.disks.specs.Others.{Others, Steps}
use Rattle.disks.specs.Calls.{Does, Either, Stays}
use Rattle.disks.specs.declared.error.DiskError.{DiskError}

pub others_own : {relied : Relied} (s t : Folder) (name : Name) (i : ℕ) (f : FileState)
    → Others relied s t → IsOwn s name i f → IsOwn t name i f
others_own {relied} s t name i f others own = record {
  own = others.own name ∙ own.own;
  found = others.own_names name own.own ∙ own.found;
  file_is = others.own_files name i own.own own.found ∙ own.file_is;
}

-- nothing was changed
pub stays_own : {relied : Relied} (s t : Folder) (name : Name) (i : ℕ) (f : FileState) → Steps relied Stays s t → IsOwn s name i f → IsOwn t name i f
stays_own {relied} s t name i f steps own =
    others_own steps.after t name i f steps.then
    (subst (λ (u : Folder). IsOwn u name i f) (sym steps.step) (others_own s steps.before name i f steps.first own))

-- a change of the own file
pub changes_own : {relied : Relied} (i : ℕ) (change : FileState → FileState) (s t : Folder) (name : Name) (f : FileState)
    → Steps relied (Changes i change) s t → IsOwn s name i f → IsOwn t name i (change f)
changes_own {relied} i change s t name f steps own =
    let u = others_own s steps.before name i f steps.first own in
    let at = steps.step.names name in
    others_own steps.after t name i (change f) steps.then (record {
      own = at.own ∙ u.own;
      found = at.found ∙ u.found;
      file_is = steps.step.file ∙ ap change u.file_is;
    })

-- the own file, whose bytes are on the disk, has a name that lasts
pub renames_stands : {relied : Relied} (from to : Name) (s t : Folder) (i : ℕ) (bytes : List ℕ) → IsRelied relied to bytes
    → Steps relied (Renames from to) s t
    → IsOwn s from i (record { bytes = bytes; is_synced = true; is_finished = false })
    → StandsFor t bytes (t.found to)
renames_stands {relied} from to s t i bytes lasting steps own =
    let u = others_own s steps.before from i _ steps.first own in
    let r = steps.step in
    let same : Some r.inode ≡ Some i = sym r.was ∙ u.found in
    let file : steps.after.file r.inode ≡ record { bytes = bytes; is_synced = true; is_finished = true } =
    r.file ∙ ap (λ (f : FileState). record f { is_finished = true }) (file_at steps.before r.inode i _ same u.file_is) in
    steps.then.settled to bytes lasting (subst (StandsFor steps.after bytes) (sym r.found) file)
  where
    file_at : (s : Folder) (i j : ℕ) (f : FileState) → Some i ≡ Some j → s.file j ≡ f → s.file i ≡ f
    file_at s i j f same is = subst (λ (o : Option ℕ). FileOf s f o) (sym same) is
      where
        FileOf : Folder → FileState → Option ℕ → Type 0
        FileOf s f None = ⊥
        FileOf s f (Some k) = s.file k ≡ f

-- what stands under a name that lasts is durable once the folder's names are on the disk
pub syncs_durable : {relied : Relied} (s t : Folder) (name : Name) (bytes : List ℕ) → IsRelied relied name bytes
    → Steps relied SyncsFolder s t → StandsFor s bytes (s.found name) → IsDurable t name bytes
syncs_durable {relied} s t name bytes lasting steps stands =
    let u = steps.first.settled name bytes lasting stands in
    let v : StandsFor steps.after bytes (steps.before.found name) = same_files steps.before steps.after bytes (steps.before.found name) steps.step.files u in
    steps.then.durable name bytes lasting (record {
      now = subst (StandsFor steps.after bytes) (sym (steps.step.found name)) v;
      later = subst (λ (l : List (Option ℕ)). All (StandsFor steps.after bytes) l) (sym (steps.step.left name))
          (All-cons (StandsFor steps.after bytes) _ [] v (All-nil (StandsFor steps.after bytes)));
    })
  where
    same_files : (s t : Folder) (bytes : List ℕ) (o : Option ℕ) → ((i : ℕ) → t.file i ≡ s.file i) → StandsFor s bytes o → StandsFor t bytes o
    same_files s t bytes None same stands = stands
    same_files s t bytes (Some i) same stands = same i ∙ stands

-- what stands under a name that lasts does so where nothing was changed
pub stays_stand : {relied : Relied} (s t : Folder) (name : Name) (bytes : List ℕ) → IsRelied relied name bytes → Steps relied Stays s t
    → StandsFor s bytes (s.found name) → StandsFor t bytes (t.found name)
stays_stand {relied} s t name bytes lasting steps stands =
    steps.then.settled name bytes lasting
    (subst (λ (u : Folder). StandsFor u bytes (u.found name)) (sym steps.step) (steps.first.settled name bytes lasting stands))

-- the same by a further name
pub links_stands : {relied : Relied} (from to : Name) (s t : Folder) (i : ℕ) (bytes : List ℕ) → IsRelied relied to bytes
    → Steps relied (Links from to) s t
    → IsOwn s from i (record { bytes = bytes; is_synced = true; is_finished = false })
    → StandsFor t bytes (t.found to)
links_stands {relied} from to s t i bytes lasting steps own =
    let u = others_own s steps.before from i _ steps.first own in
    let r = steps.step in
    let same : Some r.inode ≡ Some i = sym r.was ∙ u.found in
    let file : steps.after.file r.inode ≡ record { bytes = bytes; is_synced = true; is_finished = true } =
    r.file ∙ ap (λ (f : FileState). record f { is_finished = true }) (file_at steps.before r.inode i _ same u.file_is) in
    steps.then.settled to bytes lasting (subst (StandsFor steps.after bytes) (sym r.found) file)
  where
    file_at : (s : Folder) (i j : ℕ) (f : FileState) → Some i ≡ Some j → s.file j ≡ f → s.file i ≡ f
    file_at s i j f same is = subst (λ (o : Option ℕ). FileOf s f o) (sym same) is
      where
        FileOf : Folder → FileState → Option ℕ → Type 0
        FileOf s f None = ⊥
        FileOf s f (Some k) = s.file k ≡ f

-- what stands under another name is not removed
removed_stand : (name other : Name) (bytes : List ℕ) (u v : Folder) → other ≢ name → Removes name u v → StandsFor u bytes (u.found other) → StandsFor v bytes (v.found other)
removed_stand name other bytes u v apart step stands =
    subst (StandsFor v bytes) (sym (step.names other apart).found) (same_files (u.found other) stands)
  where
    same_files : (o : Option ℕ) → StandsFor u bytes o → StandsFor v bytes o
    same_files None stands = stands
    same_files (Some i) stands = step.files i ∙ stands

either_stand : (name other : Name) (bytes : List ℕ) (u v : Folder) → other ≢ name → Either Stays (Removes name) u v → StandsFor u bytes (u.found other) → StandsFor v bytes (v.found other)
either_stand name other bytes u v apart (inl same) stands = subst (λ (w : Folder). StandsFor w bytes (w.found other)) (sym same) stands
either_stand name other bytes u v apart (inr step) stands = removed_stand name other bytes u v apart step stands

pub removes_stand : (relied : Relied) (name other : Name) (bytes : List ℕ) (r : Result Unit DiskError) (s t : Folder) → IsRelied relied other bytes → other ≢ name
    → Does relied (Removes name) (Either Stays (Removes name)) r s t → StandsFor s bytes (s.found other) → StandsFor t bytes (t.found other)
removes_stand relied name other bytes (Ok u) s t lasting apart does stands =
    does.then.settled other bytes lasting (removed_stand name other bytes does.before does.after apart does.step (does.first.settled other bytes lasting stands))
removes_stand relied name other bytes (Err e) s t lasting apart does stands =
    does.then.settled other bytes lasting (either_stand name other bytes does.before does.after apart does.step (does.first.settled other bytes lasting stands))

-- an own name is as it was where another one is removed
removed_own : (name other : Name) (i : ℕ) (f : FileState) (u v : Folder) → other ≢ name → Removes name u v → IsOwn u other i f → IsOwn v other i f
removed_own name other i f u v apart step is =
    let same = step.names other apart in
    record { own = same.own ∙ is.own; found = same.found ∙ is.found; file_is = step.files i ∙ is.file_is }

either_own : (name other : Name) (i : ℕ) (f : FileState) (u v : Folder) → other ≢ name → Either Stays (Removes name) u v → IsOwn u other i f → IsOwn v other i f
either_own name other i f u v apart (inl same) is = subst (λ (w : Folder). IsOwn w other i f) (sym same) is
either_own name other i f u v apart (inr step) is = removed_own name other i f u v apart step is

pub removes_own : (relied : Relied) (name other : Name) (i : ℕ) (f : FileState) (r : Result Unit DiskError) (s t : Folder) → other ≢ name
    → Does relied (Removes name) (Either Stays (Removes name)) r s t → IsOwn s other i f → IsOwn t other i f
removes_own relied name other i f (Ok u) s t apart does is =
    others_own does.after t other i f does.then (removed_own name other i f does.before does.after apart does.step (others_own s does.before other i f does.first is))
removes_own relied name other i f (Err e) s t apart does is =
    others_own does.after t other i f does.then (either_own name other i f does.before does.after apart does.step (others_own s does.before other i f does.first is))

-- and where the names are put on the disk
pub synced_own : (relied : Relied) (name : Name) (i : ℕ) (f : FileState) (r : Result Unit DiskError) (s t : Folder)
    → Does relied SyncsFolder MaySyncFolder r s t → IsOwn s name i f → IsOwn t name i f
synced_own relied name i f (Ok u) s t does own =
    let is = others_own s does.before name i f does.first own in
    let step = does.step in
    others_own does.after t name i f does.then (record { own = step.own name ∙ is.own; found = step.found name ∙ is.found; file_is = step.files i ∙ is.file_is })
synced_own relied name i f (Err e) s t does own =
    let is = others_own s does.before name i f does.first own in
    let step = does.step in
    others_own does.after t name i f does.then (record { own = step.own name ∙ is.own; found = step.found name ∙ is.found; file_is = step.files i ∙ is.file_is })
