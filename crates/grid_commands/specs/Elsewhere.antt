-- The servers of an `init` that are served elsewhere.
use Rattle.std.specs.Prelude.{◌≡◌, ◌≤◌, ◌<◌, ℕ, ◌-◌, List, ◌∷◌, ◌++◌, Some}
use Rattle.std.specs.Borrow.{Bor}
use Rattle.std.specs.List.{AllZip}
use Rattle.grid_servers.specs.Sites.{IsAddress}
use Rattle.grid_words.specs.Asked.{spelled_number}
use Rattle.grid_words.specs.declared.words.Marking.{Marking}
use Rattle.grid_words.specs.declared.words.Marking.TheVariants.{New, Replace, Add, Adopt}

-- A word is the number of a server and its address, with `=` between them.
pub record NamesServer (word : List ℕ) (server : ℕ) : Type 0 where
  pub digits : List ℕ
  pub address : List ℕ
  pub parts : word ≡ digits ++ (61 ∷ address)
  pub number : spelled_number digits ≡ Some server
  pub reached : IsAddress address

-- each word names the server of its place
abbrev pub AreNamed : List (Bor (List ℕ)) → List ℕ → Type 0
AreNamed words servers = AllZip (λ word server. NamesServer word.now server) words servers

-- a grid whose marks became this, and that has so many servers, got this one
abbrev pub IsNewServer : Marking → ℕ → ℕ → Type 0
IsNewServer (New servers) count server = server < count
IsNewServer (Add more) count server = (count - more ≤ server) × (server < count)
IsNewServer (Replace _) count server = ⊥
IsNewServer (Adopt _) count server = ⊥
