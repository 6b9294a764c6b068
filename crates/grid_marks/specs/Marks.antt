-- The marks of a grid that knows its servers.
use Rattle.std.specs.Prelude.{◌≡◌, ◌≤◌, ◌<◌, ℕ, List, ◌++◌, codes, decimal}
use Rattle.cap_text.specs.Base32.{IsBytes, base32}
use Rattle.grid_marks.specs.declared.mark.Kind.{Kind}
use Rattle.grid_marks.specs.declared.mark.Kind.TheVariants.{Grid, Server}
use Rattle.grid_marks.specs.declared.mark.Mark.{Mark}

-- what stands before the number
abbrev pub kind_text : Kind → List ℕ
kind_text Grid = codes " servers "
kind_text Server = codes " server "

-- one line: the grid's identity, and how many servers it has or the number of the server
abbrev pub line : List ℕ → Kind → ℕ → List ℕ
line identity kind number =
    codes "grid " ++ (base32 identity ++ (kind_text kind ++ (decimal number ++ codes "\n")))

abbrev pub mark_text : Mark → List ℕ
mark_text m = line m.identity m.kind m.number

-- a mark is a grid's, of so many servers as a grid may have
pub record IsGrids (mark : Mark) : Type 0 where
  pub kind : mark.kind ≡ Grid
  pub number : mark.number ≤ 256

-- a mark is a server's, with a number that servers have
pub record IsServers (mark : Mark) : Type 0 where
  pub kind : mark.kind ≡ Server
  pub number : mark.number < 256

-- the mark of a server, in a grid of this identity
abbrev pub server_mark : List ℕ → ℕ → Mark
server_mark identity server = record { identity = identity; kind = Server; number = server }

-- an identity of 16 bytes, and no number above 256
abbrev pub IsMark : Mark → Type 0
IsMark m = IsBytes 16 m.identity × (m.number ≤ 256)
