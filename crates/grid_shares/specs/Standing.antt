-- The servers of a grid that stay open from one upload to the next.
use Rattle.std.specs.Prelude.{◌≡◌, ◌⊎◌, ℕ, List, Option}
use Rattle.wire.specs.declared.message.Message.{Message}
use Rattle.share_store.specs.Calls.{Calls}
use Rattle.local_grid.specs.Nodes.{Carries}
use Rattle.local_grid.specs.Turns.{Asks, Course, GridState, passed}
use Rattle.local_grid.specs.Outside.{OutsideCalls}
use Rattle.local_grid.specs.declared.outside.Happening.{Happening}
use Rattle.grid_servers.specs.Grids.{FolderGridState, GridCalls}
use Rattle.grid_servers.specs.Opened.{AreWritable}

-- the servers, and the session of the next upload
pub record Standing (G : Type 0) : Type 0 where
  pub grid : G
  pub session : ℕ

-- A message was handed to a server, which answered at once or did not; or something happened as an
-- operation waited: a message came from a server, or it was a second.
abbrev pub GoesOn : {G : Type 0} → OutsideCalls G → G → G → Type 0
GoesOn calls old new = ((server : ℕ) × (m : Message) × (answer : Option Message)
    × calls.handed old server m answer new)
    ⊎ ((happening : Happening) × calls.happened old happening new)

-- The servers of a grid were opened for writing, each over its own folder or elsewhere, and since
-- then nothing came to them but messages that were handed to them, one after another, and what
-- happened in between: messages of theirs, and seconds.
pub record WereOpened {S : Type 0} (calls : GridCalls S) (grid : List ℕ)
    (now : FolderGridState S) : Type 0 where
  pub first : FolderGridState S
  pub opened : AreWritable grid first
  pub states : List (FolderGridState S)
  pub course : Course (GoesOn calls) first states now

-- Over the servers of one process: a message was carried to a server, and its answer back, or five
-- seconds passed.
abbrev pub IsStep : {S L : Type 0} → Calls S → Carries L → GridState S L → GridState S L → Type 0
IsStep calls carries old new = ((server : ℕ) × (m : Message) × (answer : Option Message)
    × Asks calls carries old server m answer new) ⊎ (new ≡ passed old)
