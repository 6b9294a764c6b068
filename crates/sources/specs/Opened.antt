-- A source over an open file.
use Rattle.std.specs.Prelude.{◌≡◌, ◌⊎◌, ℕ, ◌+◌, ◌<◌, ◌≤◌, List, [], length, Some, IfSome, Option}
use Rattle.std.specs.Io.KnownBytes.{Consumes, IsAtEnd, Keeps}

-- the file, the size that it had, and how many reads of it failed
pub record Opened (F : Type 0) : Type 0 where
  pub file : F
  pub size : ℕ
  pub failures : ℕ

-- The file was moved to an offset, and then read: these are the next bytes that it has there, and
-- none only where it has no more. That says something of files whose bytes are known alone.
pub record WasRead {F : Type 0} (position : F → Option ℕ) (contents remaining : F → Option (List ℕ))
    (old : F) (offset : ℕ) (bytes : List ℕ) (new : F) : Type 0 where
  pub moved : F
  pub position_is : IfSome (position old) (λ _. position moved ≡ Some offset)
  pub contents_stay : Keeps (contents old) (contents moved)
  pub next : Consumes (remaining moved) (remaining new) bytes
  pub end : bytes ≡ [] → IsAtEnd (remaining new)

-- the file was read within its size, or not at all behind it
abbrev pub GivesOpened : {F : Type 0} → (F → Option ℕ) → (F → Option (List ℕ))
    → (F → Option (List ℕ)) → Opened F → ℕ → List ℕ → Opened F → Type 0
GivesOpened position contents remaining s offset bytes after =
    ((s.size ≤ offset) × (bytes ≡ []) × (after ≡ s))
    ⊎ ((offset < s.size) × (offset + length bytes ≤ s.size)
    × WasRead position contents remaining s.file offset bytes after.file
    × (after ≡ record s { file = after.file }))
