-- What each end of a connection says before its frames.
use Rattle.std.specs.Prelude.{◌≡◌, ◌⊎◌, ⊤, ℕ, ◌-◌, List, ◌++◌, codes, length, replicate, Option}
use Rattle.std.specs.Prelude.{None, Some}
use Rattle.std.specs.Io.{StartsWith}
use Rattle.grid_marks.specs.declared.mark.Mark.{Mark}
use Rattle.grid_marks.specs.Marks.{IsMark, mark_text}

-- a name that no other protocol has, and the version of the frames
abbrev pub version : List ℕ
version = codes "grid-frames 1 "

-- the line that tells a mark, or that there is none
abbrev pub told : Option Mark → List ℕ
told None = codes "no mark\n"
told (Some mark) = mark_text mark

-- spaces stand behind a text, up to 64 bytes
abbrev pub padded : List ℕ → List ℕ
padded text = text ++ replicate (64 - length text) 32

-- the greeting of an end that tells this
abbrev pub greeting_with : List ℕ → List ℕ
greeting_with line = padded (version ++ line)

-- the greeting of a client that wants this mark, and of a server that has it
abbrev pub greeting_of : Option Mark → List ℕ
greeting_of mark = greeting_with (told mark)

-- A client and a server with these greetings fit: both say the same, or the client wants no mark
-- and the server speaks this version.
abbrev pub Fits : List ℕ → List ℕ → Type 0
Fits client server = (client ≡ server) ⊎ ((client ≡ greeting_of None) × StartsWith server version)

-- a mark that a server may have, or none
abbrev pub MayBeMark : Option Mark → Type 0
MayBeMark None = ⊤
MayBeMark (Some mark) = IsMark mark
