-- Calls one after the other, of which one changes names.
use Rattle.std.proofs.Common.{◌≡◌, inl, ℕ, refl, sym, subst}
use Rattle.std.specs.Prelude.{Option, Some, None, Result, Ok, Err}
use Rattle.disks.specs.Names.{Name, Relied}
use Rattle.disks.specs.Folder.{Folder}
use Rattle.disks.specs.Others.{Others, Steps}
use Rattle.disks.specs.Calls.{Does, Gives, Either, Stays}
use Rattle.disks.specs.Steps.{Finds, Opens}
use Rattle.disks.specs.declared.error.DiskError.{DiskError}
use Rattle.disks.proofs.Polite.{go_on}

-- ---- what others did

pub others_none : {relied : Relied} (s : Folder) → Others relied s s
others_none {relied} s = record {
  own = λ name. refl;
  own_names = λ name is. refl;
  own_files = λ name i is found. refl;
  finished = λ i is. inl refl;
  held = λ name bytes lasting has. has;
  settled = λ name bytes lasting stands. stands;
  durable = λ name bytes lasting is. is;
  one_of = λ name one other lasting is. is;
}

pub others_then : {relied : Relied} (s t u : Folder) → Others relied s t → Others relied t u → Others relied s u
others_then {relied} s t u = go_on relied s t u

same_others : {relied : Relied} (s t : Folder) → t ≡ s → Others relied s t
same_others {relied} s t same = subst (λ (w : Folder). Others relied s w) (sym same) (others_none s)

-- a step that changes nothing
around : {relied : Relied} (act : Folder → Folder → Type 0) (s t : Folder) → ((u v : Folder) → act u v → v ≡ u) → Steps relied act s t → Others relied s t
around {relied} act s t same steps =
    others_then s steps.before t steps.first
    (others_then steps.before steps.after t (same_others steps.before steps.after (same steps.before steps.after steps.step)) steps.then)

pub opened_others : {relied : Relied} {F : Type 0} (inode : F → ℕ) (name : Name) (r : Result F DiskError) (s t : Folder)
    → Gives relied (λ (file : F). Opens name (inode file)) Stays r s t → Others relied s t
opened_others {relied} inode name (Ok file) s t gives = around (Opens name (inode file)) s t (λ u v step. step.same) gives
opened_others {relied} inode name (Err e) s t gives = around Stays s t (λ u v same. same) gives

pub found_others : {relied : Relied} (name : Name) (r : Result (Option ℕ) DiskError) (s t : Folder) → Gives relied (Finds name) Stays r s t → Others relied s t
found_others {relied} name (Ok None) s t gives = around (Finds name None) s t (λ u v step. step.0) gives
found_others {relied} name (Ok (Some n)) s t gives = around (Finds name (Some n)) s t (λ u v step. step.0) gives
found_others {relied} name (Err e) s t gives = around Stays s t (λ u v same. same) gives

-- ---- one step

others_before : {relied : Relied} (act : Folder → Folder → Type 0) (s t u : Folder) → Others relied s t → Steps relied act t u → Steps relied act s u
others_before {relied} act s t u first steps = record {
  before = steps.before;
  after = steps.after;
  first = others_then s t steps.before first steps.first;
  step = steps.step;
  then = steps.then;
}

pub does_after : (relied : Relied) (ok err : Folder → Folder → Type 0) (r : Result Unit DiskError) (s t u : Folder) → Others relied s t → Does relied ok err r t u → Does relied ok err r s u
does_after relied ok err (Ok v) s t u first does = others_before ok s t u first does
does_after relied ok err (Err e) s t u first does = others_before err s t u first does

pub nothing_done : {relied : Relied} (act : Folder → Folder → Type 0) (s t : Folder) → Others relied s t → Steps relied (Either Stays act) s t
nothing_done {relied} act s t others = record { before = t; after = t; first = others; step = inl refl; then = others_none t }

pub nothing_made : {relied : Relied} (s : Folder) → Steps relied Stays s s
nothing_made {relied} s = record { before = s; after = s; first = others_none s; step = refl; then = others_none s }
