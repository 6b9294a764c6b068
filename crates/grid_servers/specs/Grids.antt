-- The servers of a grid, and what they do as an operation asks them.
use Rattle.std.specs.Prelude.{ℕ, List, Option, None}
use Rattle.share_folders.specs.Folder.{FolderState, folder_calls}
use Rattle.local_grid.specs.Outside.{OutsideCalls}
use Rattle.local_grid.specs.Ends.{pair_calls}
use Rattle.local_grid.specs.Links.{IsCarriedOver, IsGivenUp}
use Rattle.local_grid.specs.declared.ends.SocketPair.{SocketPair}
use Rattle.local_grid.specs.declared.socket_link.GridLink.{GridLink}
use Rattle.connections.specs.Wires.{WireCalls, known_calls}
use Rattle.connections.specs.declared.ends.Nonblocking.{Nonblocking}
use Rattle.connections.specs.declared.socket.Socket.{Socket}
use Rattle.served_grid.specs.Served.{ServedState, served_calls}

-- Servers of this process, each over a folder and asked in memory or over streams, and the clock;
-- and servers elsewhere, each over a socket.
abbrev pub FolderGridState : Type 0 → Type 0
FolderGridState S = ServedState FolderState (GridLink (SocketPair S)) (Nonblocking Socket)

-- relations that say what such servers do
abbrev pub GridCalls : Type 0 → Type 1
GridCalls S = OutsideCalls (FolderGridState S)

-- the calls on a socket, of whose bytes nothing is known
abbrev pub socket_calls : WireCalls (Nonblocking Socket)
socket_calls = known_calls (λ s. None) (λ s. None)

-- what they do, by what is known of the bytes of the streams
abbrev pub grid_calls : {S : Type 0} → (S → Option (List ℕ)) → (S → Option (List ℕ))
    → GridCalls S
grid_calls contents remaining =
    served_calls folder_calls (IsCarriedOver (pair_calls contents remaining)) IsGivenUp socket_calls
