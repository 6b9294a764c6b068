-- The world: its nodes, its operations, and all messages that were ever sent.
use Rattle.std.specs.Prelude.{ℕ, ◌+◌, ◌<◌, ◌≤◌, ◌^◌, List, [], length, Bool, false, decimal}
use Rattle.std.specs.Prelude.{map, replicate}
use Rattle.std.specs.List.{range_with_len}
use Rattle.sha1.specs.Sha1.{sha1}
use Rattle.share_store.specs.Memory.{MemoryState}
use Rattle.share_store.specs.Shelf.{Shelf}
use Rattle.server_core.specs.ServerState.{ServerState}
use Rattle.server_core.specs.Sound.{over}
use Rattle.upload_core.specs.declared.status.ServerInfo.{ServerInfo}
use Rattle.world_operations.specs.declared.message.Sent.{Sent}
use Rattle.world_operations.specs.declared.operation.Operation.{Operation}
use Rattle.world.specs.declared.scene.Scene.{Scene}

-- Nodes 0, 1, .. are honest, and have servers; liars come after them, each with what it heard.
-- Operations and messages are named by their positions.
pub record WorldState : Type 0 where
  pub servers : List (ServerState MemoryState)
  pub heard : List (List Sent)
  pub operations : List Operation
  pub sent : List Sent
  pub clock : ℕ

-- a world, and whether it was stopped for want of memory
pub record WorldValue : Type 0 where
  pub state : WorldState
  pub stopped : Bool

abbrev pub state_of : Scene → WorldState
state_of s = record {
  servers = s.servers.items;
  heard = s.heard.items;
  operations = s.operations.items;
  sent = s.sent.items;
  clock = s.clock;
}

-- a server, over what its store holds
abbrev pub shelved : ServerState MemoryState → ServerState Shelf
shelved m = over (λ (s : MemoryState). s.shelf) m

abbrev pub node_count : WorldState → ℕ
node_count w = length w.servers + length w.heard

abbrev pub IsHonest : WorldState → ℕ → Type 0
IsHonest w node = node < length w.servers

abbrev pub IsNode : WorldState → ℕ → Type 0
IsNode w node = node < node_count w

abbrev pub IsLiar : WorldState → ℕ → Type 0
IsLiar w node = (length w.servers ≤ node) × (node < node_count w)

-- all nodes are servers of every operation
abbrev pub nodes_of : WorldState → List ℕ
nodes_of w = range_with_len 0 (node_count w)

-- a node's id is the SHA-1 of its number in decimal
abbrev pub server_of : ℕ → ServerInfo
server_of node = record { node = node; id = record { 0 = sha1 (decimal node) } }

abbrev pub servers_of : WorldState → List ServerInfo
servers_of w = map server_of (nodes_of w)

-- the bytes that a server takes at most
abbrev pub server_capacity : ℕ
server_capacity = 2 ^ 42

-- a server with an empty store
abbrev pub new_server : ServerState MemoryState
new_server = record {
  store = record {
    shelf = record { closed = []; opened = [] };
    failures = 0;
    failing = false;
  };
  buckets = [];
  clock = 0;
  capacity = server_capacity;
  readonly = false;
}

-- a new world: honest nodes with empty stores, and liars that heard nothing
abbrev pub new_world : ℕ → ℕ → WorldState
new_world honest liars = record {
  servers = replicate honest new_server;
  heard = replicate liars [];
  operations = [];
  sent = [];
  clock = 0;
}
