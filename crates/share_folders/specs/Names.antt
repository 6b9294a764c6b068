-- The names of a folder's files.
use Rattle.std.specs.Prelude.{ℕ, ◌<◌, List, ◌++◌, Option, None, Some, codes, decimal}
use Rattle.cap_text.specs.Base32.{base32, IsBytes}
use Rattle.share_store.specs.Shelf.{ShareKey}

-- storage index, share number, and what comes behind them
abbrev pub named_by : ShareKey → List ℕ → List ℕ
named_by key end = base32 key.0 ++ codes "." ++ decimal key.1 ++ codes "." ++ end

-- storage index, share number and digest
abbrev pub closed_name : ShareKey → List ℕ → List ℕ
closed_name key digest = named_by key (base32 digest)

-- storage index and share number, what only the writer has, and that it is open; in names as
-- earlier versions made them nothing stands for the writer
abbrev pub open_name : ShareKey → Option (List ℕ) → List ℕ
open_name key None = named_by key (codes "open")
open_name key (Some own) = named_by key (base32 own) ++ codes ".open"

-- such a name a share's file may have
abbrev pub IsShareKey : ShareKey → Type 0
IsShareKey key = IsBytes 16 key.0 × (key.1 < 256)

-- such a name a closed share's file may have
abbrev pub IsNamed : ShareKey → List ℕ → Type 0
IsNamed key digest = IsBytes 16 key.0 × (key.1 < 256) × IsBytes 32 digest

-- such a name an open share's file may have
abbrev pub IsOpenNamed : ShareKey → Option (List ℕ) → Type 0
IsOpenNamed key None = IsShareKey key
IsOpenNamed key (Some own) = IsShareKey key × IsBytes 16 own

abbrev pub in_folder : List ℕ → List ℕ → List ℕ
in_folder folder name = folder ++ codes "/" ++ name
