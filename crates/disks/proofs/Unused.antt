-- Which number no file has.
use Rattle.std.proofs.Common.{◌≡◌, ◌≢◌, ⊎_elim, ℕ, sym, ◌∙◌, ap, subst}
use Rattle.std.specs.Prelude.{Option, Some, None, false}
use Rattle.disks.specs.Names.{Name}
use Rattle.disks.specs.Folder.{Folder, FileState}
use Rattle.disks.specs.Changed.{put, put_file}
use Rattle.disks.specs.Replay.{IsUnused}
use Rattle.disks.proofs.Kept.{same_or_not}
use Rattle.disks.proofs.Changes.{put_here, put_there, file_there}

abbrev one_number : Option ℕ → ℕ
one_number None = 0
one_number (Some i) = i

none_some : (i : ℕ) → None ≡ Some i → ⊥
none_some i e = subst (λ (o : Option ℕ). IsNothing o) e tt
  where
    IsNothing : Option ℕ → Type 0
    IsNothing None = Unit {0}
    IsNothing (Some n) = ⊥

-- another file is put there
put_fresh : (i n : ℕ) (name : Name) (found : Name → Option ℕ) → i ≢ n → ((other : Name) → found other ≢ Some i)
    → (other : Name) → put name (Some n) found other ≢ Some i
put_fresh i n name found apart fresh other is =
    ⊎_elim
    (λ same. apart (sym (ap one_number {x = Some n} {y = Some i} (sym (ap (put name (Some n) found) same ∙ put_here name (Some n) found) ∙ is))))
    (λ differ. fresh other (sym (put_there name (Some n) found other differ) ∙ is))
    (same_or_not other name)

-- nothing is there any more
drop_fresh : (i : ℕ) (name : Name) (found : Name → Option ℕ) → ((other : Name) → found other ≢ Some i)
    → (other : Name) → put name None found other ≢ Some i
drop_fresh i name found fresh other is =
    ⊎_elim
    (λ same. none_some i (sym (ap (put name None found) same ∙ put_here name None found) ∙ is))
    (λ differ. fresh other (sym (put_there name None found other differ) ∙ is))
    (same_or_not other name)

pub unused_created : (i n : ℕ) (name : Name) (file : FileState) (s : Folder) → i ≢ n → IsUnused i s
    → (put_file n file s.file i).is_finished ≡ false
unused_created i n name file s apart unused = ap (λ (f : FileState). f.is_finished) (file_there n file s.file i apart) ∙ unused.new
