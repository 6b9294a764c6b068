-- What is kept through the calls by which a file appears whole.
use Rattle.std.proofs.Common.{◌≡◌, ◌≢◌, ◌⊎◌, inl, inr, ℕ, List, [], ◌∷◌, ◌++◌, refl, sym, ◌∙◌, ap, subst}
use Rattle.std.specs.Prelude.{Option, Some, None, true, false, All, Contains, Result, Ok, Err}
use Rattle.std.proofs.lemmas.List.Elements.{All-cons, All-nil, All-push, All-weaker, All-contains, All-contains_itself}
use Rattle.disks.specs.Names.{Name, Relied, IsRelied, AreRelied}
use Rattle.disks.specs.declared.error.DiskError.{DiskError}
use Rattle.disks.specs.Folder.{Folder, FileState, StandsFor, StandsForOne, IsDurable, IsOneOf, IsOwn}
use Rattle.disks.specs.Steps.{Creates, Makes, Changes, Spoils, Renames, Links, SyncsFolder, MaySyncFolder, Removes, SameName, OtherFilesStay}
use Rattle.disks.specs.Others.{Others, Steps, Between}
use Rattle.disks.specs.Changed.{nothing}
use Rattle.disks.specs.Calls.{Does, Either, Stays}
use Rattle.disks.specs.Laws.{FilesStay}
use Rattle.disks.specs.Past.{Passed}
use Rattle.disks.specs.Whole.{SparesAll, Spares, IsFree, Keeps, Beside, Any}
use Rattle.disks.proofs.Durable.{stands_same}
use Rattle.disks.proofs.Held.{differ, has_same, others_files}
use Rattle.disks.proofs.Kept.{same_or_not}
use Rattle.disks.proofs.Moments.{weaker, then}
use Rattle.disks.proofs.OwnNames.{others_own}

-- ---- one of two texts

pub one_of_durable : (s : Folder) (name : Name) (bytes other : List ℕ) → IsDurable s name bytes → IsOneOf s name bytes other
one_of_durable s name bytes other durable = record {
  now = inl durable.now;
  later = All-weaker (StandsFor s bytes) (StandsForOne s bytes other) (λ o stands. inl stands) (s.left name) durable.later;
}

pub durable_of_one : (s : Folder) (name : Name) (bytes : List ℕ) → IsOneOf s name bytes bytes → IsDurable s name bytes
durable_of_one s name bytes is = record {
  now = either (s.found name) is.now;
  later = All-weaker (StandsForOne s bytes bytes) (StandsFor s bytes) either (s.left name) is.later;
}
  where
    either : (o : Option ℕ) → StandsForOne s bytes bytes o → StandsFor s bytes o
    either o (inl stands) = stands
    either o (inr stands) = stands

abbrev pub FinishedStay : Folder → Folder → Type 0
FinishedStay u v = (j : ℕ) → (u.file j).is_finished ≡ true → v.file j ≡ u.file j

pub one_stays : (u v : Folder) (one other : List ℕ) → FinishedStay u v → (o : Option ℕ) → StandsForOne u one other o → StandsForOne v one other o
one_stays u v one other files o (inl stands) = inl (stands_same u v one o (λ j _ finished _. files j finished) stands)
one_stays u v one other files o (inr stands) = inr (stands_same u v other o (λ j _ finished _. files j finished) stands)

pub later_stays : (u v : Folder) (one other : List ℕ) → FinishedStay u v → (l : List (Option ℕ)) → All (StandsForOne u one other) l → All (StandsForOne v one other) l
later_stays u v one other files l = All-weaker (StandsForOne u one other) (StandsForOne v one other) (one_stays u v one other files) l

pub same_stays : (u v : Folder) (name : Name) (one other : List ℕ) → FinishedStay u v → SameName u v name → IsOneOf u name one other → IsOneOf v name one other
same_stays u v name one other files same is = record {
  now = subst (StandsForOne v one other) (sym same.found) (one_stays u v one other files (u.found name) is.now);
  later = subst (λ (l : List (Option ℕ)). All (StandsForOne v one other) l) (sym same.left) (later_stays u v one other files (u.left name) is.later);
}

pub files_stay : (u v : Folder) → FinishedStay u v → FilesStay u v
files_stay u v files i bytes has = has_same u v bytes (Some i) files has

-- nothing stands there that is on the disk
none_there : (s : Folder) (one other : List ℕ) (o : Option ℕ) → o ≡ None → StandsForOne s one other o → ⊥
none_there s one other o none (inl stands) = subst (StandsFor s one) none stands
none_there s one other o none (inr stands) = subst (StandsFor s other) none stands

-- ---- one after another

pub keeps_same : {relied : Relied} (own : Name) (may : Name → List ℕ → Type 0) (s : Folder) → Keeps relied own may s s
keeps_same {relied} own may s = record {
  one_of = λ name one other lasting asked is. is;
  owns = λ name apart. refl;
  files = λ i bytes has. has;
}

pub keeps_on : {relied : Relied} (own : Name) (may : Name → List ℕ → Type 0) (s t u : Folder) → Keeps relied own may s t → Keeps relied own may t u → Keeps relied own may s u
keeps_on {relied} own may s t u first then = record {
  one_of = λ name one other lasting asked is. then.one_of name one other lasting asked (first.one_of name one other lasting asked is);
  owns = λ name apart. then.owns name apart ∙ first.owns name apart;
  files = λ i bytes has. then.files i bytes (first.files i bytes has);
}

pub keeps_fewer : {relied : Relied} (own : Name) (may few : Name → List ℕ → Type 0) (s t : Folder) → ((name : Name) (other : List ℕ) → few name other → may name other)
    → Keeps relied own may s t → Keeps relied own few s t
keeps_fewer {relied} own may few s t each keeps = record {
  one_of = λ name one other lasting asked is. keeps.one_of name one other lasting (each name other asked) is;
  owns = keeps.owns;
  files = keeps.files;
}

pub others_keep : {relied : Relied} (own : Name) (may : Name → List ℕ → Type 0) (s t : Folder) → Others relied s t → Keeps relied own may s t
others_keep {relied} own may s t others = record {
  one_of = λ name one other lasting asked is. others.one_of name one other lasting is;
  owns = λ name apart. others.own name;
  files = others_files s t others;
}

abbrev pub KeepsSo : Relied → Name → (Name → List ℕ → Type 0) → Folder → (Folder → Folder → Type 0) → Type 0
KeepsSo relied own may s act = (u v : Folder) → Others relied s u → act u v → Keeps relied own may u v

pub steps_keep : {relied : Relied} (own : Name) (may : Name → List ℕ → Type 0) (act : Folder → Folder → Type 0) (s t : Folder)
    → KeepsSo relied own may s act → Steps relied act s t → Keeps relied own may s t
steps_keep {relied} own may act s t here steps =
    keeps_on own may s steps.before t (others_keep own may s steps.before steps.first)
    (keeps_on own may steps.before steps.after t (here steps.before steps.after steps.first steps.step)
    (others_keep own may steps.after t steps.then))

pub between_keep : {relied : Relied} (own : Name) (may : Name → List ℕ → Type 0) (act : Folder → Folder → Type 0) (s u : Folder)
    → KeepsSo relied own may s act → Between relied act s u → Keeps relied own may s u
between_keep {relied} own may act s u here (inl others) = others_keep own may s u others
between_keep {relied} own may act s u here (inr steps) = steps_keep own may act s u here steps

pub either_so : {relied : Relied} (own : Name) (may : Name → List ℕ → Type 0) (s : Folder) (one other : Folder → Folder → Type 0)
    → KeepsSo relied own may s one → KeepsSo relied own may s other → KeepsSo relied own may s (Either one other)
either_so {relied} own may s one other first second u v others (inl a) = first u v others a
either_so {relied} own may s one other first second u v others (inr b) = second u v others b

pub stays_so : {relied : Relied} (own : Name) (may : Name → List ℕ → Type 0) (s : Folder) → KeepsSo relied own may s Stays
stays_so {relied} own may s u v others same = subst (λ (w : Folder). Keeps relied own may u w) (sym same) (keeps_same own may u)

-- a call, however it ends
pub does_keep : {relied : Relied} (own : Name) (may : Name → List ℕ → Type 0) (ok err : Folder → Folder → Type 0) (r : Result Unit DiskError) (s t : Folder)
    → KeepsSo relied own may s (Either ok err) → Does relied ok err r s t → Keeps relied own may s t
does_keep {relied} own may ok err (Ok u) s t here does = steps_keep own may ok s t (λ u v others step. here u v others (inl step)) does
does_keep {relied} own may ok err (Err e) s t here does = steps_keep own may err s t (λ u v others step. here u v others (inr step)) does

pub passes_keep : {relied : Relied} (own : Name) (may : Name → List ℕ → Type 0) (act : Folder → Folder → Type 0) (s : Folder) (a b : List Folder)
    → KeepsSo relied own may s act → Passed (Between relied act s) a b → Passed (Keeps relied own may s) a b
passes_keep {relied} own may act s a b here = weaker (Between relied act s) (Keeps relied own may s) a b (λ u. between_keep own may act s u here)

pub passes_on : {relied : Relied} (own : Name) (may : Name → List ℕ → Type 0) (s0 s : Folder) (a b c : List Folder)
    → Keeps relied own may s0 s → Passed (Keeps relied own may s0) a b → Passed (Keeps relied own may s) b c → Passed (Keeps relied own may s0) a c
passes_on {relied} own may s0 s a b c so_far before passed =
    then (Keeps relied own may s0) a b c before (weaker (Keeps relied own may s) (Keeps relied own may s0) b c (λ u. keeps_on own may s0 s u so_far) passed)

-- ---- the calls

beside : (u v : Folder) (i : ℕ) → (u.file i).is_finished ≡ false → OtherFilesStay i u v → FinishedStay u v
beside u v i unfinished files j finished = files j (λ same. differ (sym finished ∙ ap (λ (k : ℕ). (u.file k).is_finished) same ∙ unfinished))

same_all : {relied : Relied} (own : Name) (may : Name → List ℕ → Type 0) (u v : Folder) → FinishedStay u v → ((name : Name) → SameName u v name) → Keeps relied own may u v
same_all {relied} own may u v files names = record {
  one_of = λ name one other lasting asked is. same_stays u v name one other files (names name) is;
  owns = λ name apart. (names name).own;
  files = files_stay u v files;
}

pub changes_so : {relied : Relied} (may : Name → List ℕ → Type 0) (s : Folder) (own : Name) (i : ℕ) (f : FileState) (change : FileState → FileState)
    → IsOwn s own i f → f.is_finished ≡ false → KeepsSo relied own may s (Changes i change)
changes_so {relied} may s own i f change is unfinished u v others step =
    same_all own may u v (beside u v i (ap (λ (g : FileState). g.is_finished) (others_own s u own i f others is).file_is ∙ unfinished) step.files) step.names

pub spoils_so : {relied : Relied} (may : Name → List ℕ → Type 0) (s : Folder) (own : Name) (i : ℕ) (f : FileState)
    → IsOwn s own i f → f.is_finished ≡ false → KeepsSo relied own may s (Spoils i)
spoils_so {relied} may s own i f is unfinished u v others step =
    same_all own may u v (beside u v i (ap (λ (g : FileState). g.is_finished) (others_own s u own i f others is).file_is ∙ unfinished) step.2.files) step.2.names

-- a file is made where nothing stood
pub makes_so : {relied : Relied} (own : Name) (may : Name → List ℕ → Type 0) (s : Folder) (i : ℕ) → KeepsSo relied own may s (Creates own i)
makes_so {relied} own may s i u v others step = record {
  one_of = λ name one other lasting asked is. at name one other is (same_or_not name own);
  owns = λ name apart. (step.names name apart).own;
  files = files_stay u v files;
}
  where
    files : FinishedStay u v
    files = beside u v i step.new step.files

    at : (name : Name) (one other : List ℕ) → IsOneOf u name one other → (name ≡ own) ⊎ (name ≢ own) → IsOneOf v name one other
    at name one other is (inl same) = absurd (none_there u one other (u.found name) (ap u.found same ∙ step.free) is.now)
    at name one other is (inr apart) = same_stays u v name one other files (step.names name apart) is

-- what is removed is not asked for
pub removes_so : {relied : Relied} (own : Name) (may : Name → List ℕ → Type 0) (s : Folder) → ((name : Name) (other : List ℕ) → may name other → name ≢ own)
    → KeepsSo relied own may s (Removes own)
removes_so {relied} own may s each u v others step = record {
  one_of = λ name one other lasting asked is. same_stays u v name one other (λ j finished. step.files j) (step.names name (each name other asked)) is;
  owns = λ name apart. (step.names name apart).own;
  files = files_stay u v (λ j finished. step.files j);
}

-- the names of the folder were put on the disk
pub syncs_so : {relied : Relied} (own : Name) (may : Name → List ℕ → Type 0) (s : Folder) → KeepsSo relied own may s SyncsFolder
syncs_so {relied} own may s u v others step = record {
  one_of = λ name one other lasting asked is.
      let stands = one_stays u v one other (λ j finished. step.files j) (u.found name) is.now in
      record {
        now = subst (StandsForOne v one other) (sym (step.found name)) stands;
        later = subst (λ (l : List (Option ℕ)). All (StandsForOne v one other) l) (sym (step.left name)) (All-cons (StandsForOne v one other) _ [] stands (All-nil (StandsForOne v one other)));
      };
  owns = λ name apart. step.own name;
  files = files_stay u v (λ j finished. step.files j);
}

pub may_sync_so : {relied : Relied} (own : Name) (may : Name → List ℕ → Type 0) (s : Folder) → KeepsSo relied own may s MaySyncFolder
may_sync_so {relied} own may s u v others step = record {
  one_of = λ name one other lasting asked is. record {
    now = subst (StandsForOne v one other) (sym (step.found name)) (one_stays u v one other (λ j finished. step.files j) (u.found name) is.now);
    later = All-weaker (Contains (v.left name)) (StandsForOne v one other)
        (λ o among. one_stays u v one other (λ j finished. step.files j) o (All-contains (StandsForOne u one other) (u.left name) o is.later (step.left name o among)))
        (v.left name) (All-contains_itself (v.left name));
  };
  owns = λ name apart. step.own name;
  files = files_stay u v (λ j finished. step.files j);
}

pub opened_keep : {relied : Relied} (own : Name) (may : Name → List ℕ → Type 0) (s t : Folder) → Steps relied Stays s t → Keeps relied own may s t
opened_keep {relied} own may s t steps = steps_keep own may Stays s t (stays_so own may s) steps

pub opened_passes : {relied : Relied} (own : Name) (may : Name → List ℕ → Type 0) (s : Folder) (a b : List Folder) → Passed (Between relied Stays s) a b → Passed (Keeps relied own may s) a b
opened_passes {relied} own may s a b = passes_keep own may Stays s a b (stays_so own may s)

pub sync_so : {relied : Relied} (own : Name) (may : Name → List ℕ → Type 0) (s : Folder) → KeepsSo relied own may s (Either SyncsFolder MaySyncFolder)
sync_so {relied} own may s = either_so own may s SyncsFolder MaySyncFolder (syncs_so own may s) (may_sync_so own may s)

pub sync_keep : {relied : Relied} (own : Name) (may : Name → List ℕ → Type 0) (r : Result Unit DiskError) (s t : Folder) → Does relied SyncsFolder MaySyncFolder r s t → Keeps relied own may s t
sync_keep {relied} own may r s t = does_keep own may SyncsFolder MaySyncFolder r s t (sync_so own may s)

pub sync_passes : {relied : Relied} (own : Name) (may : Name → List ℕ → Type 0) (s : Folder) (a b : List Folder) → Passed (Between relied (Either SyncsFolder MaySyncFolder) s) a b → Passed (Keeps relied own may s) a b
sync_passes {relied} own may s a b = passes_keep own may (Either SyncsFolder MaySyncFolder) s a b (sync_so own may s)

pub owns_same : {relied : Relied} (s t : Folder) (name : Name) → Steps relied Stays s t → t.own name ≡ s.own name
owns_same {relied} s t name steps = steps.then.own name ∙ ap (λ (u : Folder). u.own name) steps.step ∙ steps.first.own name

pub owns_synced : (relied : Relied) (r : Result Unit DiskError) (s t : Folder) (name : Name) → Does relied SyncsFolder MaySyncFolder r s t → t.own name ≡ s.own name
owns_synced relied (Ok u) s t name does = does.then.own name ∙ does.step.own name ∙ does.first.own name
owns_synced relied (Err e) s t name does = does.then.own name ∙ does.step.own name ∙ does.first.own name

-- a change of a file of this program's own, which may fail
pub change_so : {relied : Relied} (may : Name → List ℕ → Type 0) (s : Folder) (own : Name) (i : ℕ) (f : FileState) (change : FileState → FileState)
    → IsOwn s own i f → f.is_finished ≡ false → KeepsSo relied own may s (Either (Changes i change) (Spoils i))
change_so {relied} may s own i f change is unfinished =
    either_so own may s (Changes i change) (Spoils i) (changes_so may s own i f change is unfinished) (spoils_so may s own i f is unfinished)

pub change_keep : {relied : Relied} (may : Name → List ℕ → Type 0) (s t : Folder) (own : Name) (i : ℕ) (f : FileState) (change : FileState → FileState) (r : Result Unit DiskError)
    → IsOwn s own i f → f.is_finished ≡ false → Does relied (Changes i change) (Spoils i) r s t → Keeps relied own may s t
change_keep {relied} may s t own i f change r is unfinished = does_keep own may (Changes i change) (Spoils i) r s t (change_so may s own i f change is unfinished)

pub change_passes : {relied : Relied} (may : Name → List ℕ → Type 0) (s : Folder) (own : Name) (i : ℕ) (f : FileState) (change : FileState → FileState) (a b : List Folder)
    → IsOwn s own i f → f.is_finished ≡ false → Passed (Between relied (Either (Changes i change) (Spoils i)) s) a b → Passed (Keeps relied own may s) a b
change_passes {relied} may s own i f change a b is unfinished = passes_keep own may (Either (Changes i change) (Spoils i)) s a b (change_so may s own i f change is unfinished)

pub creates_own : {relied : Relied} (own : Name) (i : ℕ) (s t : Folder) → Steps relied (Creates own i) s t → IsOwn t own i nothing
creates_own {relied} own i s t steps =
    others_own steps.after t own i nothing steps.then (record { own = steps.step.own; found = steps.step.found; file_is = steps.step.file })

-- ---- a file gets its name

abbrev pub whole : List ℕ → FileState
whole bytes = record { bytes = bytes; is_synced = true; is_finished = false }

file_at : (s : Folder) (a b : ℕ) (f : FileState) → Some a ≡ Some b → s.file b ≡ f → s.file a ≡ f
file_at s a b f same is = subst (λ (o : Option ℕ). FileOf s f o) (sym same) is
  where
    FileOf : Folder → FileState → Option ℕ → Type 0
    FileOf s f None = ⊥
    FileOf s f (Some k) = s.file k ≡ f

-- every name but the own one, and under the last one where these bytes are one of the texts
abbrev pub Replacing : Name → Name → List ℕ → Name → List ℕ → Type 0
Replacing own last bytes name other = (name ≢ own) × (name ≡ last → other ≡ bytes)

pub renames_so : {relied : Relied} (own last : Name) (bytes : List ℕ) (s : Folder) (i : ℕ) → IsOwn s own i (whole bytes)
    → KeepsSo relied own (Replacing own last bytes) s (Renames own last)
renames_so {relied} own last bytes s i is u v others step = record {
  one_of = λ name one other lasting asked holds. at name one other asked holds (same_or_not name last);
  owns = λ name apart. owns name apart (same_or_not name last);
  files = files_stay u v files;
}
  where
    there : IsOwn u own i (whole bytes)
    there = others_own s u own i _ others is

    file : u.file step.inode ≡ whole bytes
    file = file_at u step.inode i _ (sym step.was ∙ there.found) there.file_is

    files : FinishedStay u v
    files = beside u v step.inode (ap (λ (f : FileState). f.is_finished) file) step.files

    owns : (name : Name) → name ≢ own → (name ≡ last) ⊎ (name ≢ last) → v.own name ≡ u.own name
    owns name apart (inl same) = ap v.own same ∙ step.same_own ∙ ap u.own (sym same)
    owns name apart (inr other) = (step.names name apart other).own

    new : (one other : List ℕ) → other ≡ bytes → StandsForOne v one other (Some step.inode)
    new one other equal = inr (step.file ∙ ap (λ (f : FileState). record f { is_finished = true }) file ∙ ap (λ (b : List ℕ). file_of b) (sym equal))
      where
        file_of : List ℕ → FileState
        file_of b = record { bytes = b; is_synced = true; is_finished = true }

    at : (name : Name) (one other : List ℕ) → Replacing own last bytes name other → IsOneOf u name one other → (name ≡ last) ⊎ (name ≢ last) → IsOneOf v name one other
    at name one other asked holds (inl same) =
        let stands = new one other (asked.1 same) in
        record {
          now = subst (StandsForOne v one other) (sym (ap v.found same ∙ step.found)) stands;
          later = subst (λ (l : List (Option ℕ)). All (StandsForOne v one other) l) (sym (ap v.left same ∙ step.left ∙ ap (λ (n : Name). u.left n ++ Some step.inode ∷ []) (sym same)))
              (All-push (StandsForOne v one other) (u.left name) (Some step.inode) (later_stays u v one other files (u.left name) holds.later) stands);
        }
    at name one other asked holds (inr apart) = same_stays u v name one other files (step.names name asked.0 apart) holds

-- a further name, where nothing stood
pub links_so : {relied : Relied} (own last : Name) (may : Name → List ℕ → Type 0) (s : Folder) (i : ℕ) (f : FileState) → IsOwn s own i f → f.is_finished ≡ false
    → KeepsSo relied own may s (Links own last)
links_so {relied} own last may s i f is unfinished u v others step = record {
  one_of = λ name one other lasting asked holds. at name one other holds (same_or_not name last);
  owns = λ name apart. owns name (same_or_not name last);
  files = files_stay u v files;
}
  where
    there : IsOwn u own i f
    there = others_own s u own i _ others is

    file : u.file step.inode ≡ f
    file = file_at u step.inode i _ (sym step.was ∙ there.found) there.file_is

    files : FinishedStay u v
    files = beside u v step.inode (ap (λ (g : FileState). g.is_finished) file ∙ unfinished) step.files

    owns : (name : Name) → (name ≡ last) ⊎ (name ≢ last) → v.own name ≡ u.own name
    owns name (inl same) = ap v.own same ∙ step.same_own ∙ ap u.own (sym same)
    owns name (inr other) = (step.names name other).own

    at : (name : Name) (one other : List ℕ) → IsOneOf u name one other → (name ≡ last) ⊎ (name ≢ last) → IsOneOf v name one other
    at name one other holds (inl same) = absurd (none_there u one other (u.found name) (ap u.found same ∙ step.free) holds.now)
    at name one other holds (inr apart) = same_stays u v name one other files (step.names name apart) holds

-- ---- what it says of all names

-- nothing that is durable stood where a file was made
pub made_free : {relied : Relied} (s t : Folder) (own : Name) (i : ℕ) → Steps relied (Creates own i) s t → IsFree relied s own
made_free {relied} s t own i steps one other lasting is =
    none_there steps.before one other (steps.before.found own) steps.step.free (steps.first.one_of own one other lasting is).now

-- under the own name nothing can be asked for
pub freed : {relied : Relied} (own : Name) (may : Name → List ℕ → Type 0) (s t : Folder) → IsFree relied s own
    → Keeps relied own (λ name other. (name ≢ own) × may name other) s t → Keeps relied own may s t
freed {relied} own may s t free keeps = record {
  one_of = λ name one other lasting asked is. at name one other lasting asked is (same_or_not name own);
  owns = keeps.owns;
  files = keeps.files;
}
  where
    at : (name : Name) (one other : List ℕ) → AreRelied relied name one other → may name other → IsOneOf s name one other → (name ≡ own) ⊎ (name ≢ own) → IsOneOf t name one other
    at name one other lasting asked is (inl same) =
        absurd (free one other (subst (λ (n : Name). AreRelied relied n one other) same lasting) (subst (λ (n : Name). IsOneOf s n one other) same is))
    at name one other lasting asked is (inr apart) = keeps.one_of name one other lasting (apart, asked) is

pub spares_all : {relied : Relied} (own : Name) (s t : Folder) → IsFree relied s own → Keeps relied own (Beside own) s t → SparesAll relied s t
spares_all {relied} own s t free keeps =
    let all = freed own Any s t free (keeps_fewer own (Beside own) _ s t (λ name other asked. asked.0) keeps) in
    record {
      names = λ name bytes lasting durable. durable_of_one t name bytes (all.one_of name bytes bytes (lasting, lasting) tt (one_of_durable s name bytes bytes durable));
      files = keeps.files;
    }

pub any_spares : {relied : Relied} (own : Name) (s t : Folder) → Keeps relied own Any s t → SparesAll relied s t
any_spares {relied} own s t keeps = record {
  names = λ name bytes lasting durable. durable_of_one t name bytes (keeps.one_of name bytes bytes (lasting, lasting) tt (one_of_durable s name bytes bytes durable));
  files = keeps.files;
}

pub spares : {relied : Relied} (own last : Name) (bytes : List ℕ) (s t : Folder) → IsFree relied s own → Keeps relied own (Replacing own last bytes) s t → Spares relied last bytes s t
spares {relied} own last bytes s t free keeps =
    let all = freed own (λ name other. name ≡ last → other ≡ bytes) s t free keeps in
    record {
      others = λ name kept lasting apart durable.
          durable_of_one t name kept (all.one_of name kept kept (lasting, lasting) (λ same. absurd (apart same)) (one_of_durable s name kept kept durable));
      here = λ kept lasting durable. all.one_of last kept bytes lasting (λ same. refl) (one_of_durable s last kept bytes durable);
      files = keeps.files;
    }

pub all_spares : {relied : Relied} (last : Name) (bytes : List ℕ) (s t : Folder) → SparesAll relied s t → Spares relied last bytes s t
all_spares {relied} last bytes s t all = record {
  others = λ name kept lasting apart durable. all.names name kept lasting durable;
  here = λ kept lasting durable. one_of_durable t last kept bytes (all.names last kept lasting.0 durable);
  files = all.files;
}

-- a file is made, or not
pub make_passes : {relied : Relied} (own : Name) (s : Folder) (a b : List Folder) → Passed (Between relied (Makes own) s) a b → Passed (SparesAll relied s) a b
make_passes {relied} own s a b =
    weaker (Between relied (Makes own) s) (SparesAll relied s) a b
    (λ u between. any_spares own s u (between_keep own Any (Makes own) s u (λ v w others step. makes_so own Any s step.0 v w others step.1) between))

pub created_keep : {relied : Relied} (own : Name) (i : ℕ) (s t : Folder) → Steps relied (Creates own i) s t → Keeps relied own (Beside own) s t
created_keep {relied} own i s t steps = steps_keep own (Beside own) (Creates own i) s t (makes_so own (Beside own) s i) steps

-- and what is kept from then on
pub then_spares : {relied : Relied} (own : Name) (s t : Folder) (a b c : List Folder) → IsFree relied s own → Keeps relied own (Beside own) s t
    → Passed (SparesAll relied s) a b → Passed (Keeps relied own (Beside own) t) b c → Passed (SparesAll relied s) a c
then_spares {relied} own s t a b c free kept before passed =
    then (SparesAll relied s) a b c before
    (weaker (Keeps relied own (Beside own) t) (SparesAll relied s) b c (λ u keeps. spares_all own s u free (keeps_on own (Beside own) s t u kept keeps)) passed)

-- ---- a file in the place of another

pub rename_so : {relied : Relied} (own last : Name) (bytes : List ℕ) (s : Folder) (i : ℕ) → IsOwn s own i (whole bytes)
    → KeepsSo relied own (Replacing own last bytes) s (Either (Renames own last) (Either Stays (Renames own last)))
rename_so {relied} own last bytes s i is =
    let renames = renames_so own last bytes s i is in
    either_so own (Replacing own last bytes) s (Renames own last) (Either Stays (Renames own last)) renames
    (either_so own (Replacing own last bytes) s Stays (Renames own last) (stays_so own (Replacing own last bytes) s) renames)

pub fewer : {relied : Relied} (own last : Name) (bytes : List ℕ) (s t : Folder) → Keeps relied own (Beside own) s t → Keeps relied own (Replacing own last bytes) s t
fewer {relied} own last bytes s t = keeps_fewer own (Beside own) (Replacing own last bytes) s t (λ name other asked. asked.0)

pub fewer_of_any : {relied : Relied} (own last : Name) (bytes : List ℕ) (s t : Folder) → Keeps relied own Any s t → Keeps relied own (Replacing own last bytes) s t
fewer_of_any {relied} own last bytes s t = keeps_fewer own Any (Replacing own last bytes) s t (λ name other asked. tt)

pub renamed_keep : {relied : Relied} (own last : Name) (bytes : List ℕ) (s t u : Folder) (i : ℕ) (r : Result Unit DiskError) → Keeps relied own (Beside own) s t
    → IsOwn t own i (whole bytes) → Does relied (Renames own last) (Either Stays (Renames own last)) r t u → Keeps relied own (Replacing own last bytes) s u
renamed_keep {relied} own last bytes s t u i r made is does =
    keeps_on own (Replacing own last bytes) s t u (fewer own last bytes s t made)
    (does_keep own (Replacing own last bytes) (Renames own last) (Either Stays (Renames own last)) r t u (rename_so own last bytes t i is) does)

-- what stood there or the new bytes, at each moment
pub then_replaces : {relied : Relied} (own last : Name) (bytes : List ℕ) (s t : Folder) (a b c : List Folder) → IsFree relied s own → Keeps relied own (Replacing own last bytes) s t
    → Passed (Spares relied last bytes s) a b → Passed (Keeps relied own (Replacing own last bytes) t) b c → Passed (Spares relied last bytes s) a c
then_replaces {relied} own last bytes s t a b c free kept before passed =
    then (Spares relied last bytes s) a b c before
    (weaker (Keeps relied own (Replacing own last bytes) t) (Spares relied last bytes s) b c
    (λ u keeps. spares own last bytes s u free (keeps_on own (Replacing own last bytes) s t u kept keeps)) passed)

pub made_passes : {relied : Relied} (last : Name) (bytes : List ℕ) (s : Folder) (a b : List Folder) → Passed (SparesAll relied s) a b → Passed (Spares relied last bytes s) a b
made_passes {relied} last bytes s a b = weaker (SparesAll relied s) (Spares relied last bytes s) a b (λ u all. all_spares last bytes s u all)

pub renamed_passes : {relied : Relied} (own last : Name) (bytes : List ℕ) (s t : Folder) (i : ℕ) (a b c : List Folder) → IsFree relied s own → Keeps relied own (Beside own) s t
    → IsOwn t own i (whole bytes) → Passed (SparesAll relied s) a b → Passed (Between relied (Either (Renames own last) (Either Stays (Renames own last))) t) b c
    → Passed (Spares relied last bytes s) a c
renamed_passes {relied} own last bytes s t i a b c free made is before passed =
    then_replaces own last bytes s t a b c free (fewer own last bytes s t made) (made_passes last bytes s a b before)
    (passes_keep own (Replacing own last bytes) (Either (Renames own last) (Either Stays (Renames own last))) t b c (rename_so own last bytes t i is) passed)

-- ---- a file beside others

pub spares_on : {relied : Relied} (s t u : Folder) → SparesAll relied s t → SparesAll relied t u → SparesAll relied s u
spares_on {relied} s t u first then = record {
  names = λ name bytes lasting durable. then.names name bytes lasting (first.names name bytes lasting durable);
  files = λ i bytes has. then.files i bytes (first.files i bytes has);
}

pub spared_on : {relied : Relied} (s t : Folder) (a b c : List Folder) → SparesAll relied s t → Passed (SparesAll relied s) a b → Passed (SparesAll relied t) b c → Passed (SparesAll relied s) a c
spared_on {relied} s t a b c kept before passed =
    then (SparesAll relied s) a b c before (weaker (SparesAll relied t) (SparesAll relied s) b c (λ u. spares_on s t u kept) passed)

link_so : {relied : Relied} (own last : Name) (s : Folder) (i : ℕ) (bytes : List ℕ) → IsOwn s own i (whole bytes)
    → KeepsSo relied own Any s (Either (Links own last) (Either Stays (Links own last)))
link_so {relied} own last s i bytes is =
    let links = links_so own last Any s i (whole bytes) is refl in
    either_so own Any s (Links own last) (Either Stays (Links own last)) links
    (either_so own Any s Stays (Links own last) (stays_so own Any s) links)

pub linked_keep : {relied : Relied} (own last : Name) (s t : Folder) (i : ℕ) (bytes : List ℕ) (r : Result Unit DiskError) → IsOwn s own i (whole bytes)
    → Does relied (Links own last) (Either Stays (Links own last)) r s t → Keeps relied own Any s t
linked_keep {relied} own last s t i bytes r is = does_keep own Any (Links own last) (Either Stays (Links own last)) r s t (link_so own last s i bytes is)

pub linked_spares : {relied : Relied} (own last : Name) (s t : Folder) (i : ℕ) (bytes : List ℕ) (r : Result Unit DiskError) → IsOwn s own i (whole bytes)
    → Does relied (Links own last) (Either Stays (Links own last)) r s t → SparesAll relied s t
linked_spares {relied} own last s t i bytes r is does = any_spares own s t (linked_keep own last s t i bytes r is does)

pub linked_passes : {relied : Relied} (own last : Name) (s : Folder) (i : ℕ) (bytes : List ℕ) (a b : List Folder) → IsOwn s own i (whole bytes)
    → Passed (Between relied (Either (Links own last) (Either Stays (Links own last))) s) a b → Passed (SparesAll relied s) a b
linked_passes {relied} own last s i bytes a b is passed =
    weaker (Keeps relied own Any s) (SparesAll relied s) a b (λ u. any_spares own s u)
    (passes_keep own Any (Either (Links own last) (Either Stays (Links own last))) s a b (link_so own last s i bytes is) passed)

-- what is durable under other names than the own one stays so
pub record SparesBeside (relied : Relied) (own : Name) (s t : Folder) : Type 0 where
  pub names : (name : Name) (bytes : List ℕ) → IsRelied relied name bytes → name ≢ own → IsDurable s name bytes → IsDurable t name bytes
  pub files : FilesStay s t

pub beside_all : {relied : Relied} (own : Name) (s t : Folder) → SparesAll relied s t → SparesBeside relied own s t
beside_all {relied} own s t all = record { names = λ name bytes lasting apart durable. all.names name bytes lasting durable; files = all.files }

pub beside_keeps : {relied : Relied} (own : Name) (s t : Folder) → Keeps relied own (Beside own) s t → SparesBeside relied own s t
beside_keeps {relied} own s t keeps = record {
  names = λ name bytes lasting apart durable. durable_of_one t name bytes (keeps.one_of name bytes bytes (lasting, lasting) apart (one_of_durable s name bytes bytes durable));
  files = keeps.files;
}

pub beside_any : {relied : Relied} (own : Name) (s t : Folder) → Keeps relied own Any s t → SparesBeside relied own s t
beside_any {relied} own s t keeps = beside_keeps own s t (keeps_fewer own Any (Beside own) s t (λ name other asked. tt) keeps)

pub beside_on : {relied : Relied} (own : Name) (s t u : Folder) → SparesBeside relied own s t → SparesBeside relied own t u → SparesBeside relied own s u
beside_on {relied} own s t u first then = record {
  names = λ name bytes lasting apart durable. then.names name bytes lasting apart (first.names name bytes lasting apart durable);
  files = λ i bytes has. then.files i bytes (first.files i bytes has);
}

-- and under that nothing stood
pub all_beside : {relied : Relied} (own : Name) (s t : Folder) → IsFree relied s own → SparesBeside relied own s t → SparesAll relied s t
all_beside {relied} own s t free spares = record {
  names = λ name bytes lasting durable. at name bytes lasting durable (same_or_not name own);
  files = spares.files;
}
  where
    at : (name : Name) (bytes : List ℕ) → IsRelied relied name bytes → IsDurable s name bytes → (name ≡ own) ⊎ (name ≢ own) → IsDurable t name bytes
    at name bytes lasting durable (inl same) =
        absurd (free bytes bytes (subst (λ (n : Name). AreRelied relied n bytes bytes) same (lasting, lasting)) (subst (λ (n : Name). IsOneOf s n bytes bytes) same (one_of_durable s name bytes bytes durable)))
    at name bytes lasting durable (inr apart) = spares.names name bytes lasting apart durable

-- at each moment from then on
pub beside_then : {relied : Relied} (own : Name) (s t : Folder) (a b c : List Folder) → IsFree relied s own → SparesBeside relied own s t → Passed (SparesAll relied s) a b
    → Passed (SparesBeside relied own t) b c → Passed (SparesAll relied s) a c
beside_then {relied} own s t a b c free kept before passed =
    then (SparesAll relied s) a b c before
    (weaker (SparesBeside relied own t) (SparesAll relied s) b c (λ u spares. all_beside own s u free (beside_on own s t u kept spares)) passed)
