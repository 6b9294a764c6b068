-- A finished file gets another name.
use Rattle.std.proofs.Common.{◌≡◌, ◌≢◌, ◌⊎◌, inl, inr, ◌==◌, ℕ, List, [], ◌∷◌, ◌++◌, refl, sym, ◌∙◌, ap, subst}
use Rattle.std.specs.Prelude.{Option, Some, None, Bool, true, false, All, Result, Ok, Err}
use Rattle.std.proofs.lemmas.Bool.Decides.{Decides-eqb}
use Rattle.std.proofs.lemmas.List.Elements.{All-push}
use Rattle.disks.specs.Names.{Name, Relied, IsRelied}
use Rattle.disks.specs.declared.error.DiskError.{DiskError}
use Rattle.disks.specs.Folder.{Folder, FileState, StandsFor, StandsForOne, IsDurable, IsOneOf}
use Rattle.disks.specs.Steps.{Finds, Opens, Renames}
use Rattle.disks.specs.Others.{Steps, Between}
use Rattle.disks.specs.Calls.{Does, Gives, Either, Stays}
use Rattle.disks.specs.Past.{Passed}
use Rattle.disks.specs.Whole.{SparesMoved, Keeps, Any}
use Rattle.disks.proofs.Kept.{same_or_not}
use Rattle.disks.proofs.Moments.{weaker, then}
use Rattle.disks.proofs.Sparing.{durable_of_one, one_of_durable, either_so, FinishedStay, files_stay, fewer_of_any, keeps_on, keeps_same, KeepsSo, later_stays, does_keep, passes_keep, Replacing, same_stays, steps_keep, stays_so}

pub same_number : (i j : ℕ) → (j ≡ i) ⊎ (j ≢ i)
same_number i j = by_test (j == i) refl
  where
    differ : true ≡ false → ⊥
    differ e = subst (λ (b : Bool). IsIt b) e tt
      where
        IsIt : Bool → Type 0
        IsIt true = Unit {0}
        IsIt false = ⊥

    by_test : (r : Bool) → (j == i) ≡ r → (j ≡ i) ⊎ (j ≢ i)
    by_test true is = inl ((Decides-eqb j i).0 is)
    by_test false is = inr (λ same. differ (sym ((Decides-eqb j i).1 same) ∙ is))

abbrev finished : List ℕ → FileState
finished bytes = record { bytes = bytes; is_synced = true; is_finished = true }

-- the file that stands for these bytes
file_of : (u : Folder) (bytes : List ℕ) (o : Option ℕ) (i : ℕ) → o ≡ Some i → StandsFor u bytes o → u.file i ≡ finished bytes
file_of u bytes o i is stands = subst (StandsFor u bytes) is stands

pub moves_so : {relied : Relied} (from to : Name) (bytes : List ℕ) (s : Folder) → IsRelied relied from bytes → IsDurable s from bytes
    → KeepsSo relied from (Replacing from to bytes) s (Renames from to)
moves_so {relied} from to bytes s lasting_from durable u v others step = record {
  one_of = λ name one other lasting asked holds. at name one other asked holds (same_or_not name to);
  owns = λ name apart. owns name apart (same_or_not name to);
  files = files_stay u v files;
}
  where
    file : u.file step.inode ≡ finished bytes
    file = file_of u bytes (u.found from) step.inode step.was (others.durable from bytes lasting_from durable).now

    same_file : v.file step.inode ≡ u.file step.inode
    same_file = step.file ∙ ap (λ (f : FileState). record f { is_finished = true }) file ∙ sym file

    files : FinishedStay u v
    files j is = by_number (same_number step.inode j)
      where
        by_number : (j ≡ step.inode) ⊎ (j ≢ step.inode) → v.file j ≡ u.file j
        by_number (inl same) = ap v.file same ∙ same_file ∙ ap u.file (sym same)
        by_number (inr apart) = step.files j apart

    owns : (name : Name) → name ≢ from → (name ≡ to) ⊎ (name ≢ to) → v.own name ≡ u.own name
    owns name apart (inl same) = ap v.own same ∙ step.same_own ∙ ap u.own (sym same)
    owns name apart (inr other) = (step.names name apart other).own

    new : (one other : List ℕ) → other ≡ bytes → StandsForOne v one other (Some step.inode)
    new one other equal = inr (same_file ∙ file ∙ ap finished (sym equal))

    at : (name : Name) (one other : List ℕ) → Replacing from to bytes name other → IsOneOf u name one other → (name ≡ to) ⊎ (name ≢ to) → IsOneOf v name one other
    at name one other asked holds (inl same) =
        let stands = new one other (asked.1 same) in
        record {
          now = subst (StandsForOne v one other) (sym (ap v.found same ∙ step.found)) stands;
          later = subst (λ (l : List (Option ℕ)). All (StandsForOne v one other) l) (sym (ap v.left same ∙ step.left ∙ ap (λ (n : Name). u.left n ++ Some step.inode ∷ []) (sym same)))
              (All-push (StandsForOne v one other) (u.left name) (Some step.inode) (later_stays u v one other files (u.left name) holds.later) stands);
        }
    at name one other asked holds (inr apart) = same_stays u v name one other files (step.names name asked.0 apart) holds

pub move_so : {relied : Relied} (from to : Name) (bytes : List ℕ) (s : Folder) → IsRelied relied from bytes → IsDurable s from bytes
    → KeepsSo relied from (Replacing from to bytes) s (Either (Renames from to) (Either Stays (Renames from to)))
move_so {relied} from to bytes s lasting durable =
    let moves = moves_so from to bytes s lasting durable in
    either_so from (Replacing from to bytes) s (Renames from to) (Either Stays (Renames from to)) moves
    (either_so from (Replacing from to bytes) s Stays (Renames from to) (stays_so from (Replacing from to bytes) s) moves)

-- what is durable stays so where everything is kept
pub still_durable : {relied : Relied} (own : Name) (s t : Folder) (name : Name) (bytes : List ℕ) → IsRelied relied name bytes → Keeps relied own Any s t → IsDurable s name bytes → IsDurable t name bytes
still_durable {relied} own s t name bytes lasting keeps durable = durable_of_one t name bytes (keeps.one_of name bytes bytes (lasting, lasting) tt (one_of_durable s name bytes bytes durable))

pub moved_stands : {relied : Relied} (from to : Name) (s t : Folder) (bytes : List ℕ) → IsRelied relied from bytes → IsRelied relied to bytes → IsDurable s from bytes
    → Steps relied (Renames from to) s t → StandsFor t bytes (t.found to)
moved_stands {relied} from to s t bytes lasting_from lasting_to durable steps =
    let r = steps.step in
    let file = file_of steps.before bytes (steps.before.found from) r.inode r.was (steps.first.durable from bytes lasting_from durable).now in
    steps.then.settled to bytes lasting_to
    (subst (StandsFor steps.after bytes) (sym r.found) (r.file ∙ ap (λ (f : FileState). record f { is_finished = true }) file))

pub moved_keep : {relied : Relied} (from to : Name) (bytes : List ℕ) (s t u : Folder) (r : Result Unit DiskError) → IsRelied relied from bytes → IsDurable s from bytes → Keeps relied from Any s t
    → Does relied (Renames from to) (Either Stays (Renames from to)) r t u → Keeps relied from (Replacing from to bytes) s u
moved_keep {relied} from to bytes s t u r lasting durable looked does =
    keeps_on from (Replacing from to bytes) s t u (fewer_of_any from to bytes s t looked)
    (does_keep from (Replacing from to bytes) (Renames from to) (Either Stays (Renames from to)) r t u (move_so from to bytes t lasting (still_durable from s t from bytes lasting looked durable)) does)

pub spares_moved : {relied : Relied} (from to : Name) (bytes : List ℕ) (s t : Folder) → from ≢ to → Keeps relied from (Replacing from to bytes) s t → SparesMoved relied from to bytes s t
spares_moved {relied} from to bytes s t apart keeps = record {
  others = λ name kept lasting not_from not_to durable.
      durable_of_one t name kept (keeps.one_of name kept kept (lasting, lasting) (not_from, λ same. absurd (not_to same)) (one_of_durable s name kept kept durable));
  here = λ kept lasting durable. keeps.one_of to kept bytes lasting ((λ same. apart (sym same)), λ same. refl) (one_of_durable s to kept bytes durable);
  files = keeps.files;
}

pub any_moved : {relied : Relied} (from to : Name) (bytes : List ℕ) (s t : Folder) → from ≢ to → Keeps relied from Any s t → SparesMoved relied from to bytes s t
any_moved {relied} from to bytes s t apart keeps = spares_moved from to bytes s t apart (fewer_of_any from to bytes s t keeps)

pub then_moved : {relied : Relied} (from to : Name) (bytes : List ℕ) (s t : Folder) (a b c : List Folder) → from ≢ to → Keeps relied from (Replacing from to bytes) s t
    → Passed (SparesMoved relied from to bytes s) a b → Passed (Keeps relied from (Replacing from to bytes) t) b c → Passed (SparesMoved relied from to bytes s) a c
then_moved {relied} from to bytes s t a b c apart kept before passed =
    then (SparesMoved relied from to bytes s) a b c before
    (weaker (Keeps relied from (Replacing from to bytes) t) (SparesMoved relied from to bytes s) b c
    (λ u keeps. spares_moved from to bytes s u apart (keeps_on from (Replacing from to bytes) s t u kept keeps)) passed)

pub looked_passes : {relied : Relied} (from to : Name) (bytes : List ℕ) (s : Folder) (a b : List Folder) → from ≢ to → Passed (Keeps relied from Any s) a b → Passed (SparesMoved relied from to bytes s) a b
looked_passes {relied} from to bytes s a b apart = weaker (Keeps relied from Any s) (SparesMoved relied from to bytes s) a b (λ u. any_moved from to bytes s u apart)

pub moved_passes : {relied : Relied} (from to : Name) (bytes : List ℕ) (s t : Folder) (a b c : List Folder) → from ≢ to → IsRelied relied from bytes → IsDurable s from bytes → Keeps relied from Any s t
    → Passed (Keeps relied from Any s) a b → Passed (Between relied (Either (Renames from to) (Either Stays (Renames from to))) t) b c → Passed (SparesMoved relied from to bytes s) a c
moved_passes {relied} from to bytes s t a b c apart lasting durable looked before passed =
    then_moved from to bytes s t a b c apart (fewer_of_any from to bytes s t looked) (looked_passes from to bytes s a b apart before)
    (passes_keep from (Replacing from to bytes) (Either (Renames from to) (Either Stays (Renames from to))) t b c
    (move_so from to bytes t lasting (still_durable from s t from bytes lasting looked durable)) passed)

-- ---- looks

same_keeps : {relied : Relied} (own : Name) (u v : Folder) → v ≡ u → Keeps relied own Any u v
same_keeps {relied} own u v same = subst (λ (w : Folder). Keeps relied own Any u w) (sym same) (keeps_same own Any u)

pub opened_any : {relied : Relied} {F : Type 0} (inode : F → ℕ) (own name : Name) (r : Result F DiskError) (s t : Folder)
    → Gives relied (λ (file : F). Opens name (inode file)) Stays r s t → Keeps relied own Any s t
opened_any {relied} inode own name (Ok file) s t gives = steps_keep own Any (Opens name (inode file)) s t (λ u v others step. same_keeps own u v step.same) gives
opened_any {relied} inode own name (Err e) s t gives = steps_keep own Any Stays s t (stays_so own Any s) gives

pub found_any : {relied : Relied} (own name : Name) (r : Result (Option ℕ) DiskError) (s t : Folder) → Gives relied (Finds name) Stays r s t → Keeps relied own Any s t
found_any {relied} own name (Ok None) s t gives = steps_keep own Any (Finds name None) s t (λ u v others step. same_keeps own u v step.0) gives
found_any {relied} own name (Ok (Some n)) s t gives = steps_keep own Any (Finds name (Some n)) s t (λ u v others step. same_keeps own u v step.0) gives
found_any {relied} own name (Err e) s t gives = steps_keep own Any Stays s t (stays_so own Any s) gives
