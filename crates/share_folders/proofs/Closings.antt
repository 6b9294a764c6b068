-- What a store's answers say of what its disk did.
use Rattle.std.proofs.Common.{◌≡◌, ℕ, List, sym, subst, ap}
use Rattle.std.specs.Prelude.{Option, Some, None, Bool, true, false, Result, Ok, Err, IfOk, OnOk, IsErr}
use Rattle.disks.specs.declared.error.DiskError.{DiskError}
use Rattle.disks.specs.Names.{Name, Relied}
use Rattle.disks.specs.Folder.{Folder, FileState, HasBytes, StandsFor, IsDurable}
use Rattle.disks.specs.Laws.{KeepsBut, KeepsBeside, FilesStay, StaysHeld}
use Rattle.share_store.specs.declared.error.StoreError.{StoreError}
use Rattle.share_folders.specs.declared.disk.Durability.{Durability}
use Rattle.share_folders.specs.declared.disk.Durability.TheVariants.{Synced, Unsynced}
use Rattle.share_folders.specs.Stored.{FileCloses, IsAs}

pub as_ok : (d : Result Unit DiskError) (r : Result Unit StoreError) (P : Type 0) → IsAs d r → OnOk d P → OnOk r P
as_ok (Ok a) (Ok b) P is holds = holds
as_ok (Ok a) (Err e) P is holds = tt
as_ok (Err d) (Ok b) P is holds = absurd is
as_ok (Err d) (Err e) P is holds = tt

pub as_if : {A : Type 0} (d : Result A DiskError) (r : Result A StoreError) (P : A → Type 0) → IsAs d r → IfOk d P → IfOk r P
as_if (Ok a) (Ok b) P is holds = subst P (sym is) holds
as_if (Ok a) (Err e) P is holds = tt
as_if (Err d) (Ok b) P is holds = absurd is
as_if (Err d) (Err e) P is holds = tt

more_ok : (r : Result Unit DiskError) (P Q : Type 0) → (P → Q) → OnOk r P → OnOk r Q
more_ok (Ok u) P Q then holds = then holds
more_ok (Err e) P Q then holds = tt

has_bytes : (s : Folder) (bytes : List ℕ) (o : Option ℕ) → StandsFor s bytes o → HasBytes s bytes o
has_bytes s bytes None stands = stands
has_bytes s bytes (Some i) stands = (ap (λ (f : FileState). f.bytes) stands, ap (λ (f : FileState). f.is_finished) stands)

pub synced_closes : {relied : Relied} (closed : Name) (bytes : List ℕ) (d : Result Unit DiskError) (r : Result Unit StoreError) (s m t : Folder) → IsAs d r
    → StaysHeld relied s m → (relied closed bytes ≡ true → OnOk d (IsDurable t closed bytes)) → KeepsBut relied closed bytes m t → FilesStay m t → FileCloses relied Synced closed bytes r s t
synced_closes {relied} closed bytes d r s m t is held durable keeps files = record {
  stands = λ relies. as_ok d r (HasBytes t bytes (t.found closed)) is
      (more_ok d (IsDurable t closed bytes) (HasBytes t bytes (t.found closed)) (λ there. has_bytes t bytes (t.found closed) there.now) (durable relies));
  durable = λ synced relies. as_ok d r (IsDurable t closed bytes) is (durable relies);
  kept = λ synced name kept lasting but there. keeps name kept lasting but (held.durable name kept lasting there);
  beside = λ name kept lasting apart there. keeps name kept lasting (λ same. absurd (apart same)) (held.durable name kept lasting there);
  files = λ i kept has. files i kept (held.files i kept has);
}

pub unlike : Unsynced ≡ Synced → ⊥
unlike same = subst IsUnsynced same tt
  where
    IsUnsynced : Durability → Type 0
    IsUnsynced Synced = ⊥
    IsUnsynced Unsynced = Unit {0}

pub unsynced_closes : {relied : Relied} (closed : Name) (bytes : List ℕ) (d : Result Unit DiskError) (r : Result Unit StoreError) (s t : Folder) → IsAs d r
    → (relied closed bytes ≡ true → OnOk d (HasBytes t bytes (t.found closed))) → KeepsBeside relied closed s t → FilesStay s t → FileCloses relied Unsynced closed bytes r s t
unsynced_closes {relied} closed bytes d r s t is stands keeps files = record {
  stands = λ relies. as_ok d r (HasBytes t bytes (t.found closed)) is (stands relies);
  durable = λ same. absurd (unlike same);
  kept = λ same. absurd (unlike same);
  beside = keeps;
  files = files;
}

false_true : false ≡ true → ⊥
false_true e = subst (λ (b : Bool). IsIt b) (sym e) tt
  where
    IsIt : Bool → Type 0
    IsIt true = Unit {0}
    IsIt false = ⊥

-- where nothing was closed, what was held is so still
pub failed_closes : {relied : Relied} (durability : Durability) (closed : Name) (bytes : List ℕ) (r : Result Unit StoreError) (s t : Folder) → IsErr r → StaysHeld relied s t
    → FileCloses relied durability closed bytes r s t
failed_closes {relied} durability closed bytes (Ok u) s t is held = absurd (false_true is)
failed_closes {relied} durability closed bytes (Err e) s t is held = record {
  stands = λ relies. tt;
  durable = λ synced relies. tt;
  kept = λ synced name kept lasting but there. held.durable name kept lasting there;
  beside = λ name kept lasting apart there. held.durable name kept lasting there;
  files = held.files;
}

-- what is held before a close
pub closes_later : {relied : Relied} (durability : Durability) (closed : Name) (bytes : List ℕ) (r : Result Unit StoreError) (s m t : Folder) → StaysHeld relied s m
    → FileCloses relied durability closed bytes r m t → FileCloses relied durability closed bytes r s t
closes_later {relied} durability closed bytes r s m t held closes = record {
  stands = closes.stands;
  durable = closes.durable;
  kept = λ synced name kept lasting but there. closes.kept synced name kept lasting but (held.durable name kept lasting there);
  beside = λ name kept lasting apart there. closes.beside name kept lasting apart (held.durable name kept lasting there);
  files = λ i kept has. closes.files i kept (held.files i kept has);
}

pub held_same : {relied : Relied} (s : Folder) → StaysHeld relied s s
held_same {relied} s = record {
  names = λ name bytes lasting has. has;
  files = λ i bytes has. has;
  durable = λ name bytes lasting durable. durable;
}

pub held_on : {relied : Relied} (s t u : Folder) → StaysHeld relied s t → StaysHeld relied t u → StaysHeld relied s u
held_on {relied} s t u first then = record {
  names = λ name bytes lasting has. then.names name bytes lasting (first.names name bytes lasting has);
  files = λ i bytes has. then.files i bytes (first.files i bytes has);
  durable = λ name bytes lasting durable. then.durable name bytes lasting (first.durable name bytes lasting durable);
}

pub from_stored : (d : Result Unit DiskError) (P : Type 0) (u : Unit) → IsAs d (Ok u) → OnOk d P → P
from_stored (Ok a) P u is holds = holds
from_stored (Err d) P u is holds = absurd is

pub from_stored_if : {A : Type 0} (d : Result A DiskError) (a : A) (P : A → Type 0) → IsAs d (Ok a) → IfOk d P → P a
from_stored_if (Ok b) a P is holds = subst P (sym is) holds
from_stored_if (Err d) a P is holds = absurd is
