-- What is durable through the calls.
use Rattle.std.proofs.Common.{◌≡◌, ◌≢◌, ◌⊎◌, inl, inr, ⊎_elim, ℕ, List, [], ◌∷◌, ◌++◌, refl, sym, ◌∙◌, ap, subst}
use Rattle.std.specs.Prelude.{Option, Some, None, Bool, true, false, All, Contains, Result, Ok, Err}
use Rattle.std.specs.Prelude.{bytes_eq}
use Rattle.std.proofs.lemmas.Slice.Eq.{bytes_eq-Decides}
use Rattle.std.proofs.lemmas.List.Elements.{All-cons, All-nil, All-push, All-weaker, All-contains, All-contains_itself}
use Rattle.disks.specs.Names.{Name, Relied}
use Rattle.disks.specs.declared.error.DiskError.{DiskError}
use Rattle.disks.specs.Folder.{Folder, FileState, StandsFor, IsDurable, IsOwn}
use Rattle.disks.specs.Steps.{Changes, SyncsFile, Spoils, Renames, SyncsFolder, MaySyncFolder, SameName, OtherFilesStay}
use Rattle.disks.specs.Others.{Others, Steps, Between}
use Rattle.disks.specs.Calls.{Does, Either, Stays}
use Rattle.disks.specs.Laws.{KeepsBut}
use Rattle.disks.proofs.Durable.{stands_same}
use Rattle.disks.proofs.OwnNames.{others_own}
use Rattle.disks.specs.Past.{Passed}
use Rattle.disks.proofs.Moments.{weaker, then}

-- two names are one, or they are not
pub same_or_not : (a b : Name) → (a ≡ b) ⊎ (a ≢ b)
same_or_not a b = by_test (bytes_eq a b) refl
  where
    by_test : (r : Bool) → bytes_eq a b ≡ r → (a ≡ b) ⊎ (a ≢ b)
    by_test true is = inl ((bytes_eq-Decides a b).0 is)
    by_test false is = inr (λ same. differ (sym ((bytes_eq-Decides a b).1 same) ∙ is))
      where
        differ : true ≡ false → ⊥
        differ e = subst (λ (b : Bool). IsIt b) e tt
          where
            IsIt : Bool → Type 0
            IsIt true = Unit {0}
            IsIt false = ⊥

-- ---- one after another

pub keeps_same : (relied : Relied) (last : Name) (bytes : List ℕ) (s : Folder) → KeepsBut relied last bytes s s
keeps_same relied last bytes s name kept lasting but durable = durable

pub keeps_on : {relied : Relied} (last : Name) (bytes : List ℕ) (s t u : Folder) → KeepsBut relied last bytes s t → KeepsBut relied last bytes t u
    → KeepsBut relied last bytes s u
keeps_on {relied} last bytes s t u first then name kept lasting but durable =
    then name kept lasting but (first name kept lasting but durable)

pub others_keep : {relied : Relied} (last : Name) (bytes : List ℕ) (s t : Folder) → Others relied s t → KeepsBut relied last bytes s t
others_keep {relied} last bytes s t others name kept lasting but durable = others.durable name kept lasting durable

abbrev Keeps : Relied → Name → List ℕ → Folder → (Folder → Folder → Type 0) → Type 0
Keeps relied last bytes s act = (u v : Folder) → Others relied s u → act u v → KeepsBut relied last bytes u v

pub steps_keep : {relied : Relied} (last : Name) (bytes : List ℕ) (act : Folder → Folder → Type 0) (s t : Folder)
    → Keeps relied last bytes s act → Steps relied act s t → KeepsBut relied last bytes s t
steps_keep {relied} last bytes act s t here steps =
    keeps_on last bytes s steps.before t (others_keep last bytes s steps.before steps.first)
    (keeps_on last bytes steps.before steps.after t (here steps.before steps.after steps.first steps.step)
    (others_keep last bytes steps.after t steps.then))

pub between_keep : {relied : Relied} (last : Name) (bytes : List ℕ) (act : Folder → Folder → Type 0) (s u : Folder)
    → Keeps relied last bytes s act → Between relied act s u → KeepsBut relied last bytes s u
between_keep {relied} last bytes act s u here (inl others) = others_keep last bytes s u others
between_keep {relied} last bytes act s u here (inr steps) = steps_keep last bytes act s u here steps

pub does_keep : {relied : Relied} (last : Name) (bytes : List ℕ) (ok err : Folder → Folder → Type 0) (r : Result Unit DiskError) (s t : Folder)
    → Keeps relied last bytes s ok → Keeps relied last bytes s err → Does relied ok err r s t → KeepsBut relied last bytes s t
does_keep {relied} last bytes ok err (Ok u) s t well ill does = steps_keep last bytes ok s t well does
does_keep {relied} last bytes ok err (Err e) s t well ill does = steps_keep last bytes err s t ill does

pub either_keep : {relied : Relied} (last : Name) (bytes : List ℕ) (s : Folder) (one other : Folder → Folder → Type 0)
    → Keeps relied last bytes s one → Keeps relied last bytes s other → Keeps relied last bytes s (Either one other)
either_keep {relied} last bytes s one other first second u v others (inl a) = first u v others a
either_keep {relied} last bytes s one other first second u v others (inr b) = second u v others b

pub stays_keep : {relied : Relied} (last : Name) (bytes : List ℕ) (s : Folder) → Keeps relied last bytes s Stays
stays_keep {relied} last bytes s u v others same = subst (λ (w : Folder). KeepsBut relied last bytes u w) (sym same) (keeps_same relied last bytes u)

-- ---- the calls

-- a file that is not finished is none that is durable
not_it : (s : Folder) (i j : ℕ) (f : FileState) → s.file i ≡ f → f.is_finished ≡ false → (s.file j).is_finished ≡ true → j ≢ i
not_it s i j f is unfinished finished same =
    differ (sym finished ∙ ap (λ (k : ℕ). (s.file k).is_finished) same ∙ ap (λ (g : FileState). g.is_finished) is ∙ unfinished)
  where
    differ : true ≡ false → ⊥
    differ e = subst (λ (b : Bool). IsIt b) e tt
      where
        IsIt : Bool → Type 0
        IsIt true = Unit {0}
        IsIt false = ⊥

-- what stands for bytes does so where only an unfinished file was changed
stands_beside : (s t : Folder) (i : ℕ) (f : FileState) (bytes : List ℕ) (o : Option ℕ) → s.file i ≡ f
    → f.is_finished ≡ false → OtherFilesStay i s t → StandsFor s bytes o → StandsFor t bytes o
stands_beside s t i f bytes o is unfinished files =
    stands_same s t bytes o (λ j _ finished _. files j (not_it s i j f is unfinished finished))

-- a durable name that is as it was
pub durable_beside : (s t : Folder) (i : ℕ) (f : FileState) (name : Name) (bytes : List ℕ) → s.file i ≡ f
    → f.is_finished ≡ false → OtherFilesStay i s t → SameName s t name → IsDurable s name bytes → IsDurable t name bytes
durable_beside s t i f name bytes is unfinished files same durable = record {
  now = subst (StandsFor t bytes) (sym same.found) (stands_beside s t i f bytes (s.found name) is unfinished files durable.now);
  later = subst (λ (l : List (Option ℕ)). All (StandsFor t bytes) l) (sym same.left)
      (All-weaker (StandsFor s bytes) (StandsFor t bytes) (λ o. stands_beside s t i f bytes o is unfinished files) (s.left name) durable.later);
}

pub changes_keep : {relied : Relied} (last : Name) (bytes : List ℕ) (s : Folder) (own : Name) (i : ℕ) (f : FileState)
    (change : FileState → FileState) → IsOwn s own i f → f.is_finished ≡ false → Keeps relied last bytes s (Changes i change)
changes_keep {relied} last bytes s own i f change is unfinished u v others step name kept lasting but durable =
    durable_beside u v i f name kept (others_own s u own i f others is).file_is unfinished step.files (step.names name) durable

pub spoils_keep : {relied : Relied} (last : Name) (bytes : List ℕ) (s : Folder) (own : Name) (i : ℕ) (f : FileState)
    → IsOwn s own i f → f.is_finished ≡ false → Keeps relied last bytes s (Spoils i)
spoils_keep {relied} last bytes s own i f is unfinished u v others step name kept lasting but durable =
    durable_beside u v i f name kept (others_own s u own i f others is).file_is unfinished step.2.files (step.2.names name) durable

pub renames_keep : {relied : Relied} (from to : Name) (bytes : List ℕ) (s : Folder) (i : ℕ)
    → IsOwn s from i (record { bytes = bytes; is_synced = true; is_finished = false }) → Keeps relied to bytes s (Renames from to)
renames_keep {relied} from to bytes s i is u v others step name kept lasting but durable =
    ⊎_elim (λ same. at_to same) (λ other. ⊎_elim (λ same. absurd (at_from same)) (λ apart. beside other apart) (same_or_not name from))
    (same_or_not name to)
  where
    own : IsOwn u from i (record { bytes = bytes; is_synced = true; is_finished = false })
    own = others_own s u from i _ others is

    file_at : (s : Folder) (a b : ℕ) (f : FileState) → Some a ≡ Some b → s.file b ≡ f → s.file a ≡ f
    file_at s a b f same is = subst (λ (o : Option ℕ). FileOf s f o) (sym same) is
      where
        FileOf : Folder → FileState → Option ℕ → Type 0
        FileOf s f None = ⊥
        FileOf s f (Some k) = s.file k ≡ f

    file : u.file step.inode ≡ record { bytes = bytes; is_synced = true; is_finished = false }
    file = file_at u step.inode i _ (sym step.was ∙ own.found) own.file_is

    differ : true ≡ false → ⊥
    differ e = subst (λ (b : Bool). IsIt b) e tt
      where
        IsIt : Bool → Type 0
        IsIt true = Unit {0}
        IsIt false = ⊥

    -- the own name is not durable, since its file is not finished
    at_from : name ≡ from → ⊥
    at_from same = unfinished (subst (StandsFor u kept) (ap u.found same ∙ own.found) durable.now)
      where
        unfinished : StandsFor u kept (Some i) → ⊥
        unfinished stands = differ (sym (ap (λ (f : FileState). f.is_finished) stands) ∙ ap (λ (f : FileState). f.is_finished) own.file_is)

    beside : name ≢ to → name ≢ from → IsDurable v name kept
    beside other apart = durable_beside u v step.inode _ name kept file refl step.files (step.names name apart other) durable

    now_finished : v.file step.inode ≡ record { bytes = bytes; is_synced = true; is_finished = true }
    now_finished = step.file ∙ ap (λ (f : FileState). record f { is_finished = true }) file

    at_to : name ≡ to → IsDurable v name kept
    at_to same =
        let equal : kept ≡ bytes = but same in
        let stands : StandsFor v kept (Some step.inode) = now_finished ∙ ap (λ (b : List ℕ). file_of b) (sym equal) in
        let before : All (StandsFor v kept) (u.left name) = All-weaker (StandsFor u kept) (StandsFor v kept) (λ o. stands_beside u v step.inode _ kept o file refl step.files) (u.left name) durable.later in
        record {
          now = subst (StandsFor v kept) (sym (ap v.found same ∙ step.found)) stands;
          later = subst (λ (l : List (Option ℕ)). All (StandsFor v kept) l) (sym (ap v.left same ∙ step.left ∙ ap (λ (n : Name). u.left n ++ Some step.inode ∷ []) (sym same)))
              (All-push (StandsFor v kept) (u.left name) (Some step.inode) before stands);
        }
      where
        file_of : List ℕ → FileState
        file_of b = record { bytes = b; is_synced = true; is_finished = true }

stands_still : (u v : Folder) (bytes : List ℕ) → ((i : ℕ) → v.file i ≡ u.file i) → (o : Option ℕ) → StandsFor u bytes o → StandsFor v bytes o
stands_still u v bytes files o = stands_same u v bytes o (λ i _ _ _. files i)

pub folder_keep : {relied : Relied} (last : Name) (bytes : List ℕ) (s : Folder) → Keeps relied last bytes s SyncsFolder
folder_keep {relied} last bytes s u v others step name kept lasting but durable =
    let stands = stands_still u v kept step.files (u.found name) durable.now in
    record {
      now = subst (StandsFor v kept) (sym (step.found name)) stands;
      later = subst (λ (l : List (Option ℕ)). All (StandsFor v kept) l) (sym (step.left name)) (All-cons (StandsFor v kept) _ [] stands (All-nil (StandsFor v kept)));
    }

pub may_folder_keep : {relied : Relied} (last : Name) (bytes : List ℕ) (s : Folder) → Keeps relied last bytes s MaySyncFolder
may_folder_keep {relied} last bytes s u v others step name kept lasting but durable = record {
  now = subst (StandsFor v kept) (sym (step.found name)) (stands_still u v kept step.files (u.found name) durable.now);
  later = All-weaker (Contains (v.left name)) (StandsFor v kept)
      (λ o among. stands_still u v kept step.files o (All-contains (StandsFor u kept) (u.left name) o durable.later (step.left name o among)))
      (v.left name) (All-contains_itself (v.left name));
}

-- ---- calls, however they end

pub sync_file_keeps : {relied : Relied} (last : Name) (bytes : List ℕ) (s : Folder) (own : Name) (i : ℕ) (f : FileState)
    → IsOwn s own i f → f.is_finished ≡ false → Keeps relied last bytes s (Either (SyncsFile i) (Spoils i))
sync_file_keeps {relied} last bytes s own i f is unfinished =
    either_keep last bytes s (SyncsFile i) (Spoils i) (changes_keep last bytes s own i f _ is unfinished) (spoils_keep last bytes s own i f is unfinished)

pub rename_keeps : {relied : Relied} (from to : Name) (bytes : List ℕ) (s : Folder) (i : ℕ)
    → IsOwn s from i (record { bytes = bytes; is_synced = true; is_finished = false })
    → Keeps relied to bytes s (Either (Renames from to) (Either Stays (Renames from to)))
rename_keeps {relied} from to bytes s i is =
    let renames = renames_keep from to bytes s i is in
    either_keep to bytes s (Renames from to) (Either Stays (Renames from to)) renames
    (either_keep to bytes s Stays (Renames from to) (stays_keep to bytes s) renames)

pub sync_folder_keeps : {relied : Relied} (last : Name) (bytes : List ℕ) (s : Folder) → Keeps relied last bytes s (Either SyncsFolder MaySyncFolder)
sync_folder_keeps {relied} last bytes s = either_keep last bytes s SyncsFolder MaySyncFolder (folder_keep last bytes s) (may_folder_keep last bytes s)

-- so a call goes on to keep
pub goes_on : {relied : Relied} (last : Name) (bytes : List ℕ) (ok err : Folder → Folder → Type 0) (r : Result Unit DiskError) (s0 s t : Folder)
    → KeepsBut relied last bytes s0 s → Keeps relied last bytes s (Either ok err) → Does relied ok err r s t → KeepsBut relied last bytes s0 t
goes_on {relied} last bytes ok err r s0 s t so_far keep does =
    keeps_on last bytes s0 s t so_far (does_keep last bytes ok err r s t (λ u v others step. keep u v others (inl step)) (λ u v others step. keep u v others (inr step)) does)

pub passes_on : {relied : Relied} (last : Name) (bytes : List ℕ) (act : Folder → Folder → Type 0) (s0 s : Folder) (a b c : List Folder)
    → KeepsBut relied last bytes s0 s → Keeps relied last bytes s act → Passed (KeepsBut relied last bytes s0) a b → Passed (Between relied act s) b c
    → Passed (KeepsBut relied last bytes s0) a c
passes_on {relied} last bytes act s0 s a b c so_far keep before passed =
    then (KeepsBut relied last bytes s0) a b c before
    (weaker (Between relied act s) (KeepsBut relied last bytes s0) b c (λ u between. keeps_on last bytes s0 s u so_far (between_keep last bytes act s u keep between)) passed)

pub passes_first : {relied : Relied} (last : Name) (bytes : List ℕ) (act : Folder → Folder → Type 0) (s : Folder) (a b : List Folder)
    → Keeps relied last bytes s act → Passed (Between relied act s) a b → Passed (KeepsBut relied last bytes s) a b
passes_first {relied} last bytes act s a b keep = weaker (Between relied act s) (KeepsBut relied last bytes s) a b (λ u. between_keep last bytes act s u keep)
