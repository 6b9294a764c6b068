-- The servers of a grid that were opened.
use Rattle.std.specs.Prelude.{◌≡◌, ◌<◌, ℕ, List, [], ◌∷◌, Bool, false, true, Option, Some, None}
use Rattle.std.specs.Prelude.{IfSome, IsSome, get_or, option_map, ⊤}
use Rattle.share_folders.specs.Folder.{FolderState, durability_of}
use Rattle.share_folders.specs.Names.{in_folder}
use Rattle.share_folders.specs.declared.disk.Durability.{Durability}
use Rattle.share_folders.specs.declared.listing.Purpose.{Purpose}
use Rattle.share_folders.specs.declared.listing.Purpose.TheVariants.{Reading, Writing}
use Rattle.grid_faults.specs.Servers.{server_name}
use Rattle.grid_marks.specs.declared.mark.Mark.{Mark}
use Rattle.grid_marks.specs.Marks.{IsGrids, server_mark}
use Rattle.connections.specs.Greetings.{greeting_of}
use Rattle.local_grid.specs.Nodes.{NodeState}
use Rattle.served_grid.specs.Remotes.{RemoteState, is_away, unasked}
use Rattle.grid_servers.specs.Grids.{FolderGridState}

-- a grid that knows its servers has one of this number; any other grid may have it
abbrev pub IsNumberOf : Option Mark → ℕ → Type 0
IsNumberOf None number = ⊤
IsNumberOf (Some grid) number = number < grid.number

-- What stands at a number: nothing, or a server over the folder of that number in the grid, that
-- speaks and has no bucket open. What it takes outlasts a power failure as it was opened for.
abbrev pub StandsAt : {L : Type 0} → List ℕ → Option Mark → Purpose → ℕ
    → Option (NodeState FolderState L) → Type 0
StandsAt grid known purpose number None = ⊤
StandsAt grid known purpose number (Some node) =
    (node.server.store.folder ≡ in_folder grid (server_name number))
    × (node.server.store.durability ≡ durability_of purpose)
    × (node.server.buckets ≡ []) × (node.silent ≡ false) × IsNumberOf known number

-- the same at each number
abbrev pub AllStand : {L : Type 0} → List ℕ → Option Mark → Purpose
    → List (Option (NodeState FolderState L)) → Type 0
AllStand grid known purpose nodes =
    (number : ℕ) → StandsAt grid known purpose number (get_or nodes number None)

-- what a server elsewhere is told: that the mark of this number is wanted, in a grid that has one
abbrev pub greeting_to : Option Mark → ℕ → List ℕ
greeting_to known number =
    greeting_of (option_map (λ grid. server_mark grid.identity number) known)

-- What stands elsewhere at a number: nothing, or a server that was not asked yet, and is told what
-- is wanted there.
abbrev pub StandsElsewhere : {W : Type 0} → Option Mark → ℕ → Option (RemoteState W) → Type 0
StandsElsewhere known number None = ⊤
StandsElsewhere known number (Some remote) =
    (remote ≡ unasked (greeting_to known number)) × IsNumberOf known number

-- the same at each number
abbrev pub AllElsewhere : {W : Type 0} → Option Mark → List (Option (RemoteState W)) → Type 0
AllElsewhere known remotes =
    (number : ℕ) → StandsElsewhere known number (get_or remotes number None)

-- what stands elsewhere does not stand here
abbrev pub AreApart : {N M : Type 0} → List (Option N) → List (Option M) → Type 0
AreApart here elsewhere = (number : ℕ)
    → IsSome (get_or elsewhere number None) → get_or here number None ≡ None

-- nothing comes from what stands here and elsewhere at a number: there is nothing, or it is silent,
-- or it is elsewhere and no connection stands, though one was tried
abbrev pub is_silent_at : {L W : Type 0} → Option (NodeState FolderState L)
    → Option (RemoteState W) → Bool
is_silent_at (Some node) remote = node.silent
is_silent_at None (Some remote) = is_away remote
is_silent_at None None = true

-- how many pieces of a share may be on their way at once to each of these servers: one where none
-- of them is elsewhere
abbrev pub at_once : {W : Type 0} → List (Option (RemoteState W)) → ℕ
at_once [] = 1
at_once (remote ∷ more) = 8

-- The servers of a grid were opened for this, each over its own folder or elsewhere, and no second
-- has passed. Where the grid has a mark they are of its servers, and those elsewhere are told it.
pub record AreOpened {S : Type 0} (grid : List ℕ) (purpose : Purpose) (g : FolderGridState S)
    : Type 0 where
  pub known : Option Mark
  pub marked : IfSome known IsGrids
  pub own : AllStand grid known purpose g.here.nodes
  pub elsewhere : AllElsewhere known g.remotes
  pub apart : AreApart g.here.nodes g.remotes
  pub second : g.here.clock ≡ 0

-- for reading alone
abbrev pub AreOpenedToRead : {S : Type 0} → List ℕ → FolderGridState S → Type 0
AreOpenedToRead grid = AreOpened grid Reading

-- for writing, so that what they take outlasts a power failure or not
abbrev pub AreOpenedToWrite : {S : Type 0} → List ℕ → Durability → FolderGridState S → Type 0
AreOpenedToWrite grid durability = AreOpened grid (Writing durability)

-- for writing, one way or the other
abbrev pub AreWritable : {S : Type 0} → List ℕ → FolderGridState S → Type 0
AreWritable grid g = (durability : Durability) × AreOpenedToWrite grid durability g
