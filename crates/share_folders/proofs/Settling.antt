-- Names that are put on the disk when a store is opened.
use Rattle.std.proofs.Common.{◌≡◌, ℕ, List, [], ◌∷◌, ◌++◌, ⊎_elim, arith}
use Rattle.std.specs.Prelude.{Result, Ok, Err, OnOk}
use Rattle.std.proofs.lemmas.List.Elements.{Contains-push_cases}
use Rattle.disks.specs.declared.error.DiskError.{DiskError}
use Rattle.disks.specs.Names.{Name, Relied, IsRelied}
use Rattle.disks.specs.Folder.{Folder, IsDurable, StandsFor}
use Rattle.disks.specs.Laws.{StaysHeld}
use Rattle.share_store.specs.Shelf.{ShareKey}
use Rattle.share_folders.specs.Listed.{AreSettled, HaveNoClosed, StayStanding}
use Rattle.share_folders.specs.Names.{IsNamed, closed_name}
use Rattle.share_folders.proofs.Lasting.{closed_lasts}

pub settled_by : {relied : Relied} (d : Result Unit DiskError) (names : List Name) (s t : Folder)
    → ((name : Name) (bytes : List ℕ) → IsRelied relied name bytes → StandsFor s bytes (s.found name) → OnOk d (IsDurable t name bytes)) → OnOk d (AreSettled relied names s t)
settled_by {relied} (Ok u) names s t durable = λ key digest bytes named there relies stands. durable (closed_name key digest) bytes (closed_lasts key digest named.2.len, relies) stands
settled_by {relied} (Err e) names s t durable = tt

-- where there are none, all are settled
pub none_settled : (relied : Relied) (names : List Name) (s t : Folder) → HaveNoClosed names → AreSettled relied names s t
none_settled relied names s t none key digest bytes named there relies stands = absurd (none key digest named there)

pub settled_later : {relied : Relied} (names : List Name) (s m t : Folder) → AreSettled relied names s m → StaysHeld relied m t → AreSettled relied names s t
settled_later {relied} names s m t settled held key digest bytes named there relies stands =
    held.durable (closed_name key digest) bytes (closed_lasts key digest named.2.len, relies) (settled key digest bytes named there relies stands)

pub none_at_first : HaveNoClosed []
none_at_first key digest named there = absurd (omega (arith, there.1))

pub none_more : (names : List Name) (name : Name) → HaveNoClosed names → ((key : ShareKey) (digest : List ℕ) → IsNamed key digest → name ≡ closed_name key digest → ⊥)
    → HaveNoClosed (names ++ name ∷ [])
none_more names name none other key digest named there =
    ⊎_elim (λ before. none key digest named before) (λ same. other key digest named same) (Contains-push_cases names name (closed_name key digest) there)

pub settled_before : {relied : Relied} (names : List Name) (s m t : Folder) → StayStanding relied s m → AreSettled relied names m t → AreSettled relied names s t
settled_before {relied} names s m t standing settled key digest bytes named there relies stands =
    settled key digest bytes named there relies (standing (closed_name key digest) bytes (closed_lasts key digest named.2.len, relies) stands)
