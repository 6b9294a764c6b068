-- What an opened store finds by the names in its folder.
use Rattle.std.specs.Prelude.{◌≡◌, ◌⊎◌, List, ℕ, Option, Some, None, Contains, true, ⊤}
use Rattle.disks.specs.Names.{Name, Relied, IsRelied}
use Rattle.disks.specs.Folder.{Folder, HasBytes, IsDurable, StandsFor}
use Rattle.share_store.specs.Shelf.{ShareKey, at}
use Rattle.share_folders.specs.declared.table.KeptShare.{KeptShare}
use Rattle.share_folders.specs.Names.{IsNamed, closed_name}

-- Each name that stands for bytes, and is relied on with them, is among these.
abbrev pub AreListed : Relied → List Name → Folder → Type 0
AreListed relied names s = (name : Name) (bytes : List ℕ) → IsRelied relied name bytes
    → HasBytes s bytes (s.found name) → Contains names name

-- What stands for bytes on the disk, and is relied on with them, stands for them still.
abbrev pub StayStanding : Relied → Folder → Folder → Type 0
StayStanding relied s t = (name : Name) (bytes : List ℕ) → IsRelied relied name bytes
    → StandsFor s bytes (s.found name) → StandsFor t bytes (t.found name)

-- No other closed name of a share is among these.
abbrev pub IsAlone : List Name → ShareKey → List ℕ → Type 0
IsAlone names key digest =
    (other : List ℕ) → IsNamed key other → Contains names (closed_name key other) → other ≡ digest

-- A closed name of a share is among these names, and no other one of the same share.
pub record IsSole (names : List Name) (key : ShareKey) (digest : List ℕ) : Type 0 where
  pub valid : IsNamed key digest
  pub there : Contains names (closed_name key digest)
  pub alone : IsAlone names key digest

-- None of these is a closed name.
abbrev pub HaveNoClosed : List Name → Type 0
HaveNoClosed names = (key : ShareKey) (digest : List ℕ) → IsNamed key digest
    → Contains names (closed_name key digest) → ⊥

-- Each closed name of these that stands for bytes on the disk, and is relied on with them, is
-- durable.
abbrev pub AreSettled : Relied → List Name → Folder → Folder → Type 0
AreSettled relied names s t = (key : ShareKey) (digest bytes : List ℕ) → IsNamed key digest
    → Contains names (closed_name key digest) → relied (closed_name key digest) bytes ≡ true
    → StandsFor s bytes (s.found (closed_name key digest))
    → IsDurable t (closed_name key digest) bytes

-- Each closed share in the table has its name among these. One that has just one closed name there
-- is in the table with its digest, and its length was not asked.
pub record AreTaken (names : List Name) (closed : List (ShareKey × KeptShare)) : Type 0 where
  pub only : (key : ShareKey) (k : KeptShare) → at key closed ≡ Some k
      → IsNamed key k.digest × Contains names (closed_name key k.digest)
  pub sole : (key : ShareKey) (digest : List ℕ) → IsSole names key digest
      → at key closed ≡ Some (record { length = None; digest = digest })

-- A share in the table has this digest, or the one that it had.
abbrev pub IsEither : List ℕ → Option KeptShare → Option KeptShare → Type 0
IsEither digest old None = ⊤
IsEither digest old (Some k) =
    (k.digest ≡ digest) ⊎ ((j : KeptShare) × (old ≡ Some j) × (k.digest ≡ j.digest))
