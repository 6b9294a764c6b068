-- That other programs reckon with what is done to share files, where of these whole closed ones
-- alone are relied on, which may be few of them. Each is a law over a step of `changes`, as every
-- other program sees it.
use Rattle.std.specs.Prelude.{◌≡◌, ℕ, List, Bool, Some, true, false}
use Rattle.tagged_hash.specs.TaggedHash.{share_digest}
use Rattle.disks.specs.Names.{Name, Relied, IsRelied}
use Rattle.disks.specs.Folder.{Folder, HasBytes, StandsFor}
use Rattle.disks.specs.Others.{Others}
use Rattle.disks.specs.Polite.{AreApart, seen_by}
use Rattle.disks.specs.Steps.{Makes, Removes, Renames}
use Rattle.share_store.specs.Shelf.{ShareKey}
use Rattle.share_folders.specs.Names.{IsNamed, closed_name, open_name}
use Rattle.share_folders.specs.Relied.{AreWholeAlone}
use Rattle.share_files.specs.Name.{IsAsideNumber, aside_name, half_name}

-- A closed share's file gets a name on its way to be set aside, where its bytes have another digest
-- than its name, or are not relied on all the same.
abbrev pub ClosedMayGo : Type 0
ClosedMayGo = (relied : Relied) (key : ShareKey) (digest own : List ℕ) (s t : Folder) (i : ℕ)
    (mine : Name → Bool) → AreWholeAlone relied → IsNamed key digest
    → Renames (closed_name key digest) (half_name key digest own) s t
    → s.found (closed_name key digest) ≡ Some i
    → AreApart mine s (closed_name key digest) (half_name key digest own) i
    → ((bytes : List ℕ) → HasBytes s bytes (Some i) → share_digest bytes ≡ digest
    → relied (closed_name key digest) bytes ≡ false)
    → Others relied (seen_by mine s) (seen_by mine t)

-- From there it gets one of those that are set aside, whatever it holds.
abbrev pub HalfMayGo : Type 0
HalfMayGo = (relied : Relied) (key : ShareKey) (digest own : List ℕ) (number : ℕ) (s t : Folder)
    (i : ℕ) (mine : Name → Bool) → AreWholeAlone relied → IsNamed key digest
    → IsAsideNumber number
    → Renames (half_name key digest own) (aside_name key digest number) s t
    → s.found (half_name key digest own) ≡ Some i
    → AreApart mine s (half_name key digest own) (aside_name key digest number) i
    → Others relied (seen_by mine s) (seen_by mine t)

-- Or its closed name, once its bytes are on the disk, which have the digest: no others have.
abbrev pub HalfMayReturn : Type 0
HalfMayReturn = (relied : Relied) (key : ShareKey) (digest own bytes : List ℕ) (s t : Folder)
    (i : ℕ) (mine : Name → Bool) → AreWholeAlone relied → IsNamed key digest
    → Renames (half_name key digest own) (closed_name key digest) s t
    → s.found (half_name key digest own) ≡ Some i
    → s.file i ≡ record { bytes = bytes; is_synced = true; is_finished = true }
    → AreApart mine s (half_name key digest own) (closed_name key digest) i
    → ((other : List ℕ) → share_digest other ≡ digest → other ≡ bytes)
    → Others relied (seen_by mine s) (seen_by mine t)

-- An open file, or an empty one that was made in vain, is removed.
abbrev pub LeftMayGo : Type 0
LeftMayGo = (relied : Relied) (key : ShareKey) (digest own : List ℕ) (number : ℕ) (s t : Folder)
    (mine : Name → Bool) → AreWholeAlone relied → IsNamed key digest → IsAsideNumber number
    → (Removes (open_name key (Some own)) s t → mine (open_name key (Some own)) ≡ false
    → Others relied (seen_by mine s) (seen_by mine t))
    × (Removes (aside_name key digest number) s t → mine (aside_name key digest number) ≡ false
    → Others relied (seen_by mine s) (seen_by mine t))

-- A file is made under a name that is none of another program's own.
abbrev pub PlaceMayBeMade : Type 0
PlaceMayBeMade = (relied : Relied) (name : Name) (s t : Folder) (mine : Name → Bool)
    → Makes name s t → mine name ≡ false → Others relied (seen_by mine s) (seen_by mine t)

-- None of these laws allows that a whole share which is relied on is taken. Where one was, since it
-- was closed after a damaged file was read there, it is not lost: it stands under its name on the
-- way, as long as others leave it there, and under its closed name again once it has that back.
abbrev pub WholeComesBack : Type 0
WholeComesBack = (relied : Relied) (key : ShareKey) (digest own bytes : List ℕ)
    (s half other t : Folder) → StandsFor s bytes (s.found (closed_name key digest))
    → Renames (closed_name key digest) (half_name key digest own) s half
    → IsRelied relied (half_name key digest own) bytes → Others relied half other
    → StandsFor other bytes (other.found (half_name key digest own))
    × (Renames (half_name key digest own) (closed_name key digest) other t
    → StandsFor t bytes (t.found (closed_name key digest)))
