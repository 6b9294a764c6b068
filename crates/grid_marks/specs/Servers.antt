-- The marks of servers.
use Rattle.std.specs.Prelude.{◌≡◌, ◌⊎◌, ◌≤◌, ⊤, ℕ, List, codes, Bool, true, false, Option, None}
use Rattle.std.specs.Prelude.{Some}
use Rattle.std.specs.Io.{StartsWith}
use Rattle.grid_marks.specs.declared.mark.Kind.{Kind}
use Rattle.grid_marks.specs.declared.mark.Mark.{Mark}
use Rattle.grid_marks.specs.declared.marks.Found.{Found}
use Rattle.grid_marks.specs.declared.marks.Found.TheVariants as found
use Rattle.grid_marks.specs.declared.marks.Likeness.{Likeness}
use Rattle.grid_marks.specs.declared.marks.Likeness.TheVariants as likes

-- two marks have one identity and one number
abbrev pub IsAlike : Mark → Mark → Type 0
IsAlike wanted mark = (mark.identity ≡ wanted.identity) × (mark.number ≡ wanted.number)

-- a mark was found, of this grid and with this number
abbrev pub IsThis : Mark → Found → Type 0
IsThis wanted found.Nothing = ⊥
IsThis wanted (found.Mark mark) = IsAlike wanted mark
IsThis wanted found.Other = ⊥

-- a mark that was found is of this kind, and its number is one that marks have
abbrev pub IsOfKind : Kind → Found → Type 0
IsOfKind kind (found.Mark mark) = (mark.kind ≡ kind) × (mark.number ≤ 256)
IsOfKind kind found.Nothing = ⊤
IsOfKind kind found.Other = ⊤

-- the identity of the first mark that was found
abbrev pub identity_after : Option (List ℕ) → Found → Option (List ℕ)
identity_after None (found.Mark mark) = Some mark.identity
identity_after None found.Nothing = None
identity_after None found.Other = None
identity_after (Some identity) found = Some identity

-- what a new server's folder may hold: what a file system makes, its mark, and beginnings of it
abbrev pub IsPassedOver : List ℕ → Type 0
IsPassedOver name = (name ≡ codes "lost+found") ⊎ (name ≡ codes "grid-mark")
    ⊎ StartsWith name (codes "grid-mark.")

-- what stands there is the mark exactly where it is told so, and else nothing stands there
abbrev pub IsOwn : Bool → Likeness → Type 0
IsOwn true likeness = likeness ≡ likes.Same
IsOwn false likeness = likeness ≡ likes.Nothing
