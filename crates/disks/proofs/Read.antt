-- What is read of finished files.
use Rattle.std.proofs.Common.{◌≡◌, ℕ, List, sym, ◌∙◌, ap, subst}
use Rattle.std.specs.Prelude.{Option, Some, None, Result, Ok, Err, IfOk, OnOk, length, take, drop}
use Rattle.disks.specs.Names.{Name, Relied, IsRelied}
use Rattle.disks.specs.declared.error.DiskError.{DiskError}
use Rattle.disks.specs.Folder.{Folder, HasBytes}
use Rattle.disks.specs.Steps.{Finds, Opens, ReadsAt}
use Rattle.disks.specs.Calls.{Does, Gives, Stays}
use Rattle.disks.proofs.Held.{others_held}

pub reads : (relied : Relied) (r : Result Unit DiskError) (s t : Folder) (i offset : ℕ) (out bytes : List ℕ)
    → Does relied (ReadsAt i offset out) Stays r s t → HasBytes s bytes (Some i)
    → OnOk r (out ≡ take (length out) (drop offset bytes))
reads relied (Err e) s t i offset out bytes does has = tt
reads relied (Ok u) s t i offset out bytes does has =
    let before = (others_held s does.before does.first).files i bytes has in
    does.step.bytes_are ∙ ap (λ (b : List ℕ). take (length out) (drop offset b)) before.0

pub opens : (relied : Relied) {F : Type 0} (inode : F → ℕ) (name : Name) (r : Result F DiskError) (s t : Folder) (bytes : List ℕ) → IsRelied relied name bytes
    → Gives relied (λ (file : F). Opens name (inode file)) Stays r s t → HasBytes s bytes (s.found name)
    → IfOk r (λ (file : F). HasBytes t bytes (Some (inode file)))
opens relied inode name (Err e) s t bytes lasting gives has = tt
opens relied inode name (Ok file) s t bytes lasting gives has =
    let before = (others_held s gives.before gives.first).names name bytes lasting has in
    let there = subst (HasBytes gives.before bytes) gives.step.found before in
    (others_held gives.after t gives.then).files (inode file) bytes (subst (λ (u : Folder). HasBytes u bytes (Some (inode file))) (sym gives.step.same) there)

-- what is found is as long as what stands there
long_at : (u : Folder) (bytes : List ℕ) (o : Option ℕ) (i n : ℕ) → o ≡ Some i → length (u.file i).bytes ≡ n → HasBytes u bytes o → Some n ≡ Some (length bytes)
long_at u bytes o i n is long has =
    let there = subst (HasBytes u bytes) is has in
    ap (λ (k : ℕ). Some k) (sym long ∙ ap length there.0)

none_at : (u : Folder) (bytes : List ℕ) (o : Option ℕ) → o ≡ None → HasBytes u bytes o → ⊥
none_at u bytes o is has = subst (HasBytes u bytes) is has

pub finds : (relied : Relied) (name : Name) (r : Result (Option ℕ) DiskError) (s t : Folder) (bytes : List ℕ) → IsRelied relied name bytes
    → Gives relied (Finds name) Stays r s t → HasBytes s bytes (s.found name) → IfOk r (λ (found : Option ℕ). found ≡ Some (length bytes))
finds relied name (Err e) s t bytes lasting gives has = tt
finds relied name (Ok None) s t bytes lasting gives has =
    absurd (none_at gives.before bytes (gives.before.found name) gives.step.1 ((others_held s gives.before gives.first).names name bytes lasting has))
finds relied name (Ok (Some n)) s t bytes lasting gives has =
    long_at gives.before bytes (gives.before.found name) gives.step.1.0 n gives.step.1.1 gives.step.1.2 ((others_held s gives.before gives.first).names name bytes lasting has)
