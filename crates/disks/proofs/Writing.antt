-- A file that is written piece by piece.
use Rattle.std.proofs.Common.{◌≡◌, ℕ, List, [], ◌++◌, refl, sym, ◌∙◌, ap, subst}
use Rattle.std.specs.Prelude.{Option, Some, None, Bool, true, false, Result, Ok, Err, IfOk, OnOk, OnErr}
use Rattle.disks.specs.Names.{Name, Relied}
use Rattle.disks.specs.declared.error.DiskError.{DiskError}
use Rattle.disks.specs.Folder.{Folder, FileState, HasBytes, StandsFor}
use Rattle.disks.specs.Steps.{Creates, Changes, Appends, SyncsFile, Spoils, Renames, Finds}
use Rattle.disks.specs.Others.{Steps, Between}
use Rattle.disks.specs.Calls.{Does, Gives, Either, Stays}
use Rattle.disks.specs.Past.{Passed}
use Rattle.disks.specs.Whole.{SparesAll, Spares, Keeps, Beside, Any, OwnsNoMore}
use Rattle.disks.specs.Written.{IsBegun, IsFilled, IsWriting}
use Rattle.disks.proofs.Moments.{weaker, then}
use Rattle.disks.proofs.OwnNames.{changes_own}
use Rattle.disks.proofs.Moved.{found_any}
use Rattle.disks.proofs.Sparing.{all_spares, any_spares, change_keep, change_passes, created_keep, creates_own, fewer, fewer_of_any, keeps_fewer, keeps_on, made_free, makes_so, opened_keep, opened_passes, owns_same, passes_keep, rename_so, renamed_keep, Replacing, spares, spares_all, steps_keep}

-- ---- a file is begun

pub begun_so : (relied : Relied) {F : Type 0} (inode : F → ℕ) (own : Name) (r : Result F DiskError) (s t : Folder)
    → Gives relied (λ (file : F). Creates own (inode file)) Stays r s t → IfOk r (λ (file : F). IsWriting relied s own (inode file) [] t)
begun_so relied inode own (Ok file) s t gives = record {
  since = record { free = made_free s t own (inode file) gives; kept = created_keep own (inode file) s t gives };
  file = creates_own own (inode file) s t gives;
}
begun_so relied inode own (Err e) s t gives = tt

pub begun_spares : {relied : Relied} {F : Type 0} (inode : F → ℕ) (own : Name) (r : Result F DiskError) (s t : Folder)
    → Gives relied (λ (file : F). Creates own (inode file)) Stays r s t → SparesAll relied s t
begun_spares {relied} inode own (Ok file) s t gives = any_spares own s t (steps_keep own Any (Creates own (inode file)) s t (makes_so own Any s (inode file)) gives)
begun_spares {relied} inode own (Err e) s t gives = any_spares own s t (opened_keep own Any s t gives)

pub not_begun : (relied : Relied) {F : Type 0} (inode : F → ℕ) (own : Name) (r : Result F DiskError) (s t : Folder)
    → Gives relied (λ (file : F). Creates own (inode file)) Stays r s t → OnErr r (OwnsNoMore s t)
not_begun relied inode own (Ok file) s t gives = tt
not_begun relied inode own (Err e) s t gives = λ name is. sym (owns_same s t name gives) ∙ is

-- ---- it is written

pub begun_on : {relied : Relied} (begun : Folder) (own : Name) (s t : Folder) → IsBegun relied begun own s → Keeps relied own (Beside own) s t → IsBegun relied begun own t
begun_on {relied} begun own s t since keeps = record { free = since.free; kept = keeps_on own (Beside own) begun s t since.kept keeps }

pub begun_spared : {relied : Relied} (begun : Folder) (own : Name) (s : Folder) → IsBegun relied begun own s → SparesAll relied begun s
begun_spared {relied} begun own s since = spares_all own begun s since.free since.kept

pub since_passes : {relied : Relied} (begun : Folder) (own : Name) (s : Folder) (a b : List Folder) → IsBegun relied begun own s → Passed (Keeps relied own (Beside own) s) a b → Passed (SparesAll relied begun) a b
since_passes {relied} begun own s a b since =
    weaker (Keeps relied own (Beside own) s) (SparesAll relied begun) a b (λ u keeps. begun_spared begun own u (begun_on begun own s u since keeps))

pub change_begun : {relied : Relied} (begun : Folder) (own : Name) (i : ℕ) (bytes : List ℕ) (synced : Bool) (change : FileState → FileState) (r : Result Unit DiskError) (s t : Folder)
    → IsFilled relied begun own i bytes synced s → Does relied (Changes i change) (Spoils i) r s t → IsBegun relied begun own t
change_begun {relied} begun own i bytes synced change r s t filled does =
    begun_on begun own s t filled.since (change_keep (Beside own) s t own i _ change r filled.file refl does)

pub change_moments : {relied : Relied} (begun : Folder) (own : Name) (i : ℕ) (bytes : List ℕ) (synced : Bool) (change : FileState → FileState) (s : Folder) (a b : List Folder)
    → IsFilled relied begun own i bytes synced s → Passed (Between relied (Either (Changes i change) (Spoils i)) s) a b → Passed (SparesAll relied begun) a b
change_moments {relied} begun own i bytes synced change s a b filled passed =
    since_passes begun own s a b filled.since (change_passes (Beside own) s own i _ change a b filled.file refl passed)

pub written_so : {relied : Relied} (begun : Folder) (own : Name) (i j : ℕ) (before bytes : List ℕ) (r : Result Unit DiskError) (s t : Folder) → j ≡ i
    → IsWriting relied begun own i before s → Does relied (Appends i bytes) (Spoils i) r s t → OnOk r (IsWriting relied begun own j (before ++ bytes) t)
written_so {relied} begun own i j before bytes (Err e) s t same writing does = tt
written_so {relied} begun own i j before bytes (Ok u) s t same writing does =
    subst (λ (k : ℕ). IsWriting relied begun own k (before ++ bytes) t) (sym same)
    (record {
      since = change_begun begun own i before false _ (Ok u) s t writing does;
      file = changes_own i _ s t own _ does writing.file;
    })

pub synced_so : {relied : Relied} (begun : Folder) (own : Name) (i : ℕ) (bytes : List ℕ) (s t : Folder) → IsWriting relied begun own i bytes s
    → Steps relied (SyncsFile i) s t → IsFilled relied begun own i bytes true t
synced_so {relied} begun own i bytes s t writing steps = record {
  since = change_begun begun own i bytes false (λ (f : FileState). record f { is_synced = true }) (Ok tt) s t writing steps;
  file = changes_own i _ s t own _ steps writing.file;
}

-- ---- it gets its name

pub filled_replaces : {relied : Relied} (begun : Folder) (own last : Name) (i : ℕ) (bytes : List ℕ) (r : Result Unit DiskError) (s t : Folder) → IsFilled relied begun own i bytes true s
    → Does relied (Renames own last) (Either Stays (Renames own last)) r s t → Keeps relied own (Replacing own last bytes) begun t
filled_replaces {relied} begun own last i bytes r s t filled does = renamed_keep own last bytes begun s t i r filled.since.kept filled.file does

pub filled_spares : {relied : Relied} (begun : Folder) (own last : Name) (i : ℕ) (bytes : List ℕ) (r : Result Unit DiskError) (s t : Folder) → IsFilled relied begun own i bytes true s
    → Does relied (Renames own last) (Either Stays (Renames own last)) r s t → Spares relied last bytes begun t
filled_spares {relied} begun own last i bytes r s t filled does = spares own last bytes begun t filled.since.free (filled_replaces begun own last i bytes r s t filled does)

pub filled_passes : {relied : Relied} (begun : Folder) (own last : Name) (i : ℕ) (bytes : List ℕ) (s : Folder) (a b : List Folder) → IsFilled relied begun own i bytes true s
    → Passed (Between relied (Either (Renames own last) (Either Stays (Renames own last))) s) a b → Passed (Spares relied last bytes begun) a b
filled_passes {relied} begun own last i bytes s a b filled passed =
    weaker (Keeps relied own (Replacing own last bytes) s) (Spares relied last bytes begun) a b
    (λ u keeps. spares own last bytes begun u filled.since.free (keeps_on own (Replacing own last bytes) begun s u (fewer own last bytes begun s filled.since.kept) keeps))
    (passes_keep own (Replacing own last bytes) (Either (Renames own last) (Either Stays (Renames own last))) s a b (rename_so own last bytes s i filled.file) passed)

-- and the names are put on the disk
pub synced_spares : {relied : Relied} (begun : Folder) (own last : Name) (bytes : List ℕ) (s t : Folder) → IsBegun relied begun own s → Keeps relied own (Replacing own last bytes) begun t
    → (u : Folder) → Keeps relied own Any t u → Spares relied last bytes begun u
synced_spares {relied} begun own last bytes s t since renamed u keeps =
    spares own last bytes begun u since.free (keeps_on own (Replacing own last bytes) begun t u renamed (fewer_of_any own last bytes t u keeps))

pub synced_passes : {relied : Relied} (begun : Folder) (own last : Name) (bytes : List ℕ) (s t : Folder) (a b c : List Folder) → IsBegun relied begun own s → Keeps relied own (Replacing own last bytes) begun t
    → Passed (Spares relied last bytes begun) a b → Passed (Keeps relied own Any t) b c → Passed (Spares relied last bytes begun) a c
synced_passes {relied} begun own last bytes s t a b c since renamed before passed =
    then (Spares relied last bytes begun) a b c before
    (weaker (Keeps relied own Any t) (Spares relied last bytes begun) b c (λ u keeps. synced_spares begun own last bytes s t since renamed u keeps) passed)

pub stands_has : (s : Folder) (bytes : List ℕ) (o : Option ℕ) → StandsFor s bytes o → HasBytes s bytes o
stands_has s bytes None stands = stands
stands_has s bytes (Some i) stands = (ap (λ (f : FileState). f.bytes) stands, ap (λ (f : FileState). f.is_finished) stands)

-- at each moment while its bytes are put on the disk, and from then on
pub then_named : {relied : Relied} (begun : Folder) (last : Name) (bytes : List ℕ) (a b c : List Folder) → Passed (SparesAll relied begun) a b → Passed (Spares relied last bytes begun) b c
    → Passed (Spares relied last bytes begun) a c
then_named {relied} begun last bytes a b c before =
    then (Spares relied last bytes begun) a b c (weaker (SparesAll relied begun) (Spares relied last bytes begun) a b (λ u all. all_spares last bytes begun u all) before)

-- ---- it is given up

pub found_beside : {relied : Relied} (own : Name) (r : Result (Option ℕ) DiskError) (s t : Folder) → Gives relied (Finds own) Stays r s t → Keeps relied own (Beside own) s t
found_beside {relied} own r s t gives = keeps_fewer own Any (Beside own) s t (λ name other asked. tt) (found_any own own r s t gives)

-- a look and a removal
pub given_up : {relied : Relied} (begun : Folder) (own : Name) (r : Result (Option ℕ) DiskError) (s t u : Folder) → IsBegun relied begun own s → Gives relied (Finds own) Stays r s t
    → Keeps relied own (Beside own) t u → SparesAll relied begun u
given_up {relied} begun own r s t u since gives keeps =
    begun_spared begun own u (begun_on begun own t u (begun_on begun own s t since (found_beside own r s t gives)) keeps)

pub looked_spares : {relied : Relied} (begun : Folder) (own : Name) (r : Result (Option ℕ) DiskError) (s t : Folder) → IsBegun relied begun own s → Gives relied (Finds own) Stays r s t → SparesAll relied begun t
looked_spares {relied} begun own r s t since gives = begun_spared begun own t (begun_on begun own s t since (found_beside own r s t gives))

pub looked_moments : {relied : Relied} (begun : Folder) (own : Name) (s : Folder) (a b : List Folder) → IsBegun relied begun own s → Passed (Between relied Stays s) a b → Passed (SparesAll relied begun) a b
looked_moments {relied} begun own s a b since passed = since_passes begun own s a b since (opened_passes own (Beside own) s a b passed)

pub given_moments : {relied : Relied} (begun : Folder) (own : Name) (r : Result (Option ℕ) DiskError) (s t : Folder) (a b d : List Folder) → IsBegun relied begun own s → Gives relied (Finds own) Stays r s t
    → Passed (Between relied Stays s) a b → Passed (Keeps relied own (Beside own) t) b d → Passed (SparesAll relied begun) a d
given_moments {relied} begun own r s t a b d since gives looked removed =
    then (SparesAll relied begun) a b d (looked_moments begun own s a b since looked)
    (since_passes begun own t b d (begun_on begun own s t since (found_beside own r s t gives)) removed)
