-- What `grid status` tells.
use Rattle.std.specs.Prelude.{◌≡◌, ◌<◌, ℕ, List, Bool, IfSome, if◌then◌else◌, length, map, nat_eq}
use Rattle.std.specs.List.{IsDistinct}
use Rattle.grid_marks.specs.Marks.{IsGrids}
use Rattle.grid_rules.specs.Ways.{AreWays}
use Rattle.grid_shares.specs.declared.Outcome.{Outcome}
use Rattle.grid_stores.specs.declared.states.GridState.{GridState}
use Rattle.grid_stores.specs.States.{status_of}
use Rattle.grid_stores.specs.StatusJson.{status_json}
use Rattle.grid_stores.specs.StatusLines.{status_lines}
use Rattle.grid_words.specs.declared.words.StatusWords.{StatusWords}

-- the lines of a grid, or its object
abbrev pub status_text : Bool → GridState → List ℕ
status_text json grid = if json then status_json grid else status_lines grid

-- A grid was found so, with a server at least, each told once. What stands there is what the system
-- says.
pub record IsStatusBy (words : StatusWords) (outcome : Outcome) : Type 0 where
  pub found : GridState
  pub some : 0 < length found.servers.items
  pub distinct : IsDistinct nat_eq (map (λ s. s.server) found.servers.items)
  pub mark : IfSome found.mark IsGrids
  pub ways : IfSome found.ways AreWays
  pub text : outcome.text.items ≡ status_text words.json found
  pub status : outcome.status ≡ status_of found.servers.items
