-- What an `init` tells.
use Rattle.std.specs.Prelude.{◌≡◌, ◌≤◌, ℕ, ◌-◌, List, [], ◌++◌, Option, Some, None, codes, decimal}
use Rattle.std.specs.Prelude.{◌||◌, Bool, false, if◌then◌else◌, is_some}
use Rattle.std.specs.Prelude.{All, encode_utf8_all, map, nat_eq, unwrap_or, ⊤}
use Rattle.std.specs.Borrow.{Bor}
use Rattle.std.specs.List.{IsDistinct}
use Rattle.grid_faults.specs.ToldPath.{told_char}
use Rattle.grid_rules.specs.Ways.{ways_text}
use Rattle.grid_shares.specs.Puts.{meant_numbers}
use Rattle.grid_commands.specs.Elsewhere.{AreNamed, IsNewServer}
use Rattle.grid_words.specs.declared.words.InitWords.{InitWords}
use Rattle.grid_words.specs.declared.words.Marking.{Marking}
use Rattle.grid_words.specs.declared.words.Marking.TheVariants.{New, Replace, Add, Adopt}
use Rattle.grid_words.specs.declared.words.NumberWords.{NumberWords}

-- How many servers a grid has whose marks became this: as many as are asked for, or 10.
abbrev pub IsCountBy : Marking → ℕ → Type 0
IsCountBy (New servers) count = count ≡ unwrap_or servers 10
IsCountBy (Replace server) count = server ≤ count - 1
IsCountBy (Add more) count = more ≤ count
IsCountBy (Adopt None) count = ⊤
IsCountBy (Adopt (Some servers)) count = count ≡ servers

-- the line with how many there are
abbrev pub servers_line : ℕ → List ℕ
servers_line count = codes "servers " ++ (decimal count ++ codes "\n")

-- the line that tells a path of these characters
abbrev pub secret_line : List ℕ → List ℕ
secret_line chars = codes "secret " ++ (encode_utf8_all (map told_char chars) ++ codes "\n")

-- where a grid's secret lies is told where one is asked for
abbrev pub IsSecretText : List ℕ → Option (Bor (List ℕ)) → List ℕ → Type 0
IsSecretText grid None text = text ≡ []
IsSecretText grid (Some secret) text = (chars : List ℕ)
    × (encode_utf8_all chars ≡ grid ++ codes "/grid-secret") × (text ≡ secret_line chars)

-- words write one of the numbers that a grid keeps
abbrev pub writes_ways : NumberWords → Bool
writes_ways words = is_some words.needed || is_some words.happy || is_some words.total
    || is_some words.max_segment

-- ways are kept with a grid that is marked, and with no other
abbrev pub TakesWays : Marking → Bool → Type 0
TakesWays (New servers) writes = ⊤
TakesWays (Adopt servers) writes = ⊤
TakesWays (Replace server) writes = writes ≡ false
TakesWays (Add more) writes = writes ≡ false

-- the line with the ways that the grid keeps, where one of their numbers is written: that of their
-- file
abbrev pub ways_lines : NumberWords → List ℕ
ways_lines words = if writes_ways words then ways_text (meant_numbers words) else []

-- What is told of the marks that these words ask for. Each server that is served elsewhere is new,
-- and is named once.
pub record IsInitBy (words : InitWords) (lines : List ℕ) : Type 0 where
  pub count : ℕ
  pub few : count ≤ 256
  pub marked : IsCountBy words.marking count
  pub servers : List ℕ
  pub named : AreNamed words.elsewhere.items servers
  pub distinct : IsDistinct nat_eq servers
  pub new : All (IsNewServer words.marking count) servers
  pub secret : List ℕ
  pub kept : IsSecretText words.grid.now words.secret_file secret
  pub takes : TakesWays words.marking (writes_ways words.ways)
  pub told : lines ≡ servers_line count ++ (secret ++ ways_lines words.ways)
