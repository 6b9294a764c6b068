-- Files that appear whole, beside others or in the place of one.
use Rattle.std.specs.Prelude.{◌≡◌, ◌≢◌, ℕ, List, true, false, ⊤}
use Rattle.disks.specs.Names.{Name, Relied, IsRelied, AreRelied}
use Rattle.disks.specs.Folder.{Folder, IsDurable, IsOneOf, IsOwn}
use Rattle.disks.specs.Laws.{FilesStay, KeepsBeside}

-- What is durable under names that last, and is relied on, stays so, and what finished files have.
pub record SparesAll (relied : Relied) (s t : Folder) : Type 0 where
  pub names : (name : Name) (bytes : List ℕ) → IsRelied relied name bytes
      → IsDurable s name bytes → IsDurable t name bytes
  pub files : FilesStay s t

-- The same, but that these bytes may stand under this name in the place of what stood there: one of
-- the two does, now and after each crash, where both are relied on.
pub record Spares (relied : Relied) (last : Name) (bytes : List ℕ) (s t : Folder) : Type 0 where
  pub others : KeepsBeside relied last s t
  pub here : (kept : List ℕ) → AreRelied relied last kept bytes
      → IsDurable s last kept → IsOneOf t last kept bytes
  pub files : FilesStay s t

-- What is durable under other names than these two, and is relied on, stays so, and so do finished
-- files. Under the second what was durable there is so still, or these bytes are in its place,
-- where both are relied on.
pub record SparesMoved (relied : Relied) (from to : Name) (bytes : List ℕ) (s t : Folder) : Type 0
  where
    pub others : (name : Name) (kept : List ℕ) → IsRelied relied name kept
        → name ≢ from → name ≢ to → IsDurable s name kept → IsDurable t name kept
    pub here : (kept : List ℕ) → AreRelied relied to kept bytes
        → IsDurable s to kept → IsOneOf t to kept bytes
    pub files : FilesStay s t

-- No name is this program's own that was not so before, but for this one.
abbrev pub OwnsNoMoreThan : Name → Folder → Folder → Type 0
OwnsNoMoreThan last s t =
    (name : Name) → name ≢ last → t.own name ≡ true → s.own name ≡ true

-- No name is this program's own that was not so before.
abbrev pub OwnsNoMore : Folder → Folder → Type 0
OwnsNoMore s t = (name : Name) → t.own name ≡ true → s.own name ≡ true

-- A file of these bytes, on the disk, stands under a name of this program's own.
abbrev pub HasOwn : Folder → Name → List ℕ → Type 0
HasOwn s name bytes = (i : ℕ)
    × IsOwn s name i (record { bytes = bytes; is_synced = true; is_finished = false })

-- ---- words of private clauses

-- Nothing that is durable and relied on stands under the name.
abbrev pub IsFree : Relied → Folder → Name → Type 0
IsFree relied s name =
    (one other : List ℕ) → AreRelied relied name one other → IsOneOf s name one other → ⊥

-- Which of two texts stand under the names that last, and are relied on, is kept, where these may
-- be asked for, and so is whose own other names than this one are, and what finished files have.
pub record Keeps (relied : Relied) (own : Name) (may : Name → List ℕ → Type 0) (s t : Folder)
    : Type 0 where
  pub one_of : (name : Name) (one other : List ℕ) → AreRelied relied name one other
      → may name other → IsOneOf s name one other → IsOneOf t name one other
  pub owns : (name : Name) → name ≢ own → t.own name ≡ s.own name
  pub files : FilesStay s t

-- every name but this one
abbrev pub Beside : Name → Name → List ℕ → Type 0
Beside own name other = name ≢ own

abbrev pub Any : Name → List ℕ → Type 0
Any name other = ⊤
