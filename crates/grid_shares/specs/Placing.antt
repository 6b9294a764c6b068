-- What is placed, and what placing it came to.
use Rattle.std.specs.Prelude.{◌≡◌, ◌≤◌, ◌==◌, ◌&&◌, ℕ, Bool, List, false, length, map}
use Rattle.request_record.specs.Operations.{OperationCalls}
use Rattle.upload_core.specs.Moves.{Begins}
use Rattle.upload_core.specs.Ready.{Ready}
use Rattle.upload_core.specs.Sending.{Uploading}
use Rattle.upload_core.specs.State.{with_ahead}
use Rattle.carried_operations.specs.declared.range.SharePlace.{SharePlace}
use Rattle.carried_operations.specs.Stored.{IsStored}
use Rattle.grid_faults.specs.Servers.{server_of}
use Rattle.grid_servers.specs.Grids.{FolderGridState, GridCalls}
use Rattle.grid_servers.specs.Opened.{AreWritable, at_once}
use Rattle.grid_servers.specs.Servers.{servers_without}
use Rattle.grid_shares.specs.declared.placing.Stored.{Stored}
use Rattle.grid_shares.specs.Standing.{WereOpened}
use Rattle.grid_shares.specs.Ways.{AreCleared}

-- Shares were uploaded to these servers, over a grid as it stood: their upload was begun in a
-- session with all of these servers, of which each may have so many pieces of a share at once, and
-- is stored with this happiness.
pub record AreUploaded {P S : Type 0} (operation : OperationCalls (Uploading P))
    (calls : GridCalls S) (before : FolderGridState S) (session : ℕ) (servers : List ℕ)
    (made : Ready P) (happiness : ℕ) : Type 0 where
  pub begun : Uploading P
  pub ahead : ℕ
  pub few : ahead ≤ at_once before.remotes
  pub begins : Begins (with_ahead ahead made.goal) made.happy (map server_of servers) session
      (calls.clock before) begun.course
  pub pieces : begun.pieces ≡ made.pieces
  pub after : FolderGridState S
  pub stored : IsStored operation calls begun before after happiness

-- Shares were placed on servers of a grid. The way was cleared for them at each, by their digests
-- too where they are to be mended, but for shares that are read for it; and they were uploaded to
-- all but those at which a share was left; it is told whether there were some. Servers may have
-- been kept open for it; they are opened anew where none were, or a file was touched on the way.
pub record ArePlaced {P S : Type 0} (operation : OperationCalls (Uploading P))
    (calls : GridCalls S) (grid : List ℕ) (kept mend : Bool) (reading : List SharePlace)
    (servers : List ℕ) (made : Ready P) (stored : Stored) : Type 0 where
  pub stuck : List ℕ
  pub still : Bool
  pub cleared : AreCleared made.goal mend reading servers stuck still
  pub none : stored.is_cleared ≡ (length stuck == 0)
  pub before : FolderGridState S
  pub opened : WereOpened calls grid before
  pub anew : (kept && still) ≡ false → AreWritable grid before
  pub session : ℕ
  pub uploaded : AreUploaded operation calls before session (servers_without servers stuck) made
      stored.happiness
