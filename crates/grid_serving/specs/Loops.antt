-- The loop of a process that serves: what each turn of it does.
use Rattle.std.specs.Prelude.{◌≡◌, ◌<◌, ◌≤◌, ◌⊎◌, ℕ, zero, suc, Bool, true, false, List, [], ◌∷◌}
use Rattle.std.specs.Prelude.{◌++◌, Option, Some, None, map, replicate, slice_get, slice_set}
use Rattle.share_store.specs.Calls.{Calls}
use Rattle.server_core.specs.ServerState.{LetsGoOfEnded, ServerState, Ticks}
use Rattle.connections.specs.Wires.{WireCalls}
use Rattle.connections.specs.declared.socket.Listener.{Listener}
use Rattle.grid_serving.specs.Places.{ClientState, is_awake, is_late, new_client, places_of}
use Rattle.grid_serving.specs.Turns.{FailsInTurn, LeaveInTurn, MakesRoom, ServesInTurn, WakeInTurn}
use Rattle.grid_serving.specs.declared.clients.Gone.{Gone}
use Rattle.grid_serving.specs.declared.serving.News.{News}
use Rattle.grid_serving.specs.declared.serving.News.TheVariants as news

-- What it listens with, its server and its greeting, the clients at their places, the second that
-- passed last, whether clients may wait to be taken, whether there may be more to do at once, and
-- what happened and was not told yet.
pub record LoopState (W S : Type 0) : Type 0 where
  pub listener : Listener
  pub server : ServerState S
  pub own : List ℕ
  pub clients : List (Option (ClientState W))
  pub clock : ℕ
  pub comes : Bool
  pub is_owed : Bool
  pub news : List News

-- It has just begun: nobody is there, and there is nothing to tell.
abbrev pub begun_loop : {W S : Type 0} → Listener → ServerState S → List ℕ → LoopState W S
begun_loop listener server own = record {
  listener = listener;
  server = server;
  own = own;
  clients = replicate 256 None;
  clock = 0;
  comes = true;
  is_owed = true;
  news = [];
}

-- ---- what is told

-- This is to be told last. Where there is no memory for that it is passed over.
abbrev pub Tells : News → List News → List News → Type 0
Tells one old new = (new ≡ old ++ one ∷ []) ⊎ (new ≡ old)

-- Clients that are gone are to be told, and nothing else.
pub record TellsGone (old new : List News) : Type 0 where
  pub gone : List Gone
  pub told : new ≡ old ++ map news.Gone gone

-- ---- the parts of a turn

-- Some clients, and what listens, are told to be ready. Nothing else happens.
pub record Wakes {W S : Type 0} (old new : LoopState W S) : Type 0 where
  pub nodes : List ℕ
  pub clients : WakeInTurn nodes old.clients new.clients
  pub comes : old.comes ≡ true → new.comes ≡ true
  pub others : new ≡ record old { clients = new.clients; comes = new.comes }

-- Where no place was free, room may be made.
pub record RoomIsMade {W S : Type 0} (calls : Calls S) (old new : LoopState W S) : Type 0 where
  pub room : MakesRoom calls old.clients old.server new.clients new.server
  pub news : TellsGone old.news new.news
  pub others : new ≡ record old { server = new.server; clients = new.clients; news = new.news }

-- A client has come, over this wire, to a place at which nobody was.
pub record Comes {W S : Type 0} (node now : ℕ) (old new : LoopState W S) : Type 0 where
  pub within : node < 256
  pub free : slice_get old.clients node ≡ Some None
  pub wire : W
  pub others : new ≡ record old {
    clients = slice_set old.clients node (Some (new_client wire old.own now));
  }

-- One comes, or is refused.
abbrev pub Seats : {W S : Type 0} → ℕ → LoopState W S → News → LoopState W S → Type 0
Seats now old (news.Came node) new = Comes node now old new
Seats now old news.Refused new = new ≡ old
Seats now old (news.Gone gone) new = ⊥

-- One that waited is taken, and what came of it is to be told.
pub record Takes {W S : Type 0} (calls : Calls S) (now : ℕ) (old new : LoopState W S) : Type 0 where
  pub room : LoopState W S
  pub makes : RoomIsMade calls old room
  pub one : News
  pub seated : LoopState W S
  pub seats : Seats now room one seated
  pub news : Tells one seated.news new.news
  pub others : new ≡ record seated { news = new.news }

-- So many are taken, one after the other.
abbrev pub TakeInTurn : {W S : Type 0} → Calls S → ℕ → ℕ → LoopState W S → LoopState W S → Type 0
TakeInTurn calls zero now old new = new ≡ old
TakeInTurn {W} {S} calls (suc count) now old new =
    (next : LoopState W S) × TakeInTurn calls count now old next × Takes calls now next new

-- Those that wait are taken, 64 at most: none where none may wait. Then none may wait any more, or
-- others may.
pub record TakesWaiting {W S : Type 0} (calls : Calls S) (now : ℕ) (old new : LoopState W S)
    : Type 0 where
  pub count : ℕ
  pub most : count ≤ 64
  pub none : old.comes ≡ false → new ≡ old
  pub taken : LoopState W S
  pub takes : TakeInTurn calls count now old taken
  pub others : new ≡ record taken { comes = new.comes }

-- The clients for which there may be something to do have their turns. Whether there may be more is
-- noted.
pub record ServesReady {W S : Type 0} (wires : WireCalls W) (calls : Calls S) (now : ℕ)
    (old new : LoopState W S) : Type 0 where
  pub turns : ServesInTurn wires calls (places_of is_awake old.clients) now old.clients old.server
      new.clients new.server
  pub news : TellsGone old.news new.news
  pub others : new ≡ record old {
    server = new.server;
    clients = new.clients;
    is_owed = new.is_owed;
    news = new.news;
  }

-- They have them until there is not enough memory for a message of one.
pub record FailsReady {W S : Type 0} (wires : WireCalls W) (calls : Calls S) (now : ℕ)
    (old new : LoopState W S) : Type 0 where
  pub turns : FailsInTurn wires calls (places_of is_awake old.clients) now old.clients old.server
      new.clients new.server
  pub news : TellsGone old.news new.news
  pub others : new ≡ record old { server = new.server; clients = new.clients; news = new.news }

-- Another second has come: the server is told, and clients that are late are gone.
pub record Ages {W S : Type 0} (calls : Calls S) (now : ℕ) (old new : LoopState W S) : Type 0 where
  pub ticked : ServerState S
  pub ticks : Ticks old.server now ticked
  pub rid : ServerState S
  pub lets_go : LetsGoOfEnded calls ticked rid
  pub leave : LeaveInTurn calls (places_of (is_late now) old.clients) old.clients rid
      new.clients new.server
  pub news : TellsGone old.news new.news
  pub others : new ≡ record old {
    server = new.server;
    clients = new.clients;
    clock = now;
    news = new.news;
  }

-- Time passes where the second is another one.
abbrev pub Passes : {W S : Type 0} → Calls S → ℕ → LoopState W S → LoopState W S → Type 0
Passes calls now old new =
    ((now ≡ old.clock) × (new ≡ old)) ⊎ ((¬ (now ≡ old.clock)) × Ages calls now old new)

-- ---- turns

-- A turn at a second: sockets tell that they are ready, clients that wait are taken, those for
-- which there may be something to do have their turns, and time passes.
pub record Turns {W S : Type 0} (wires : WireCalls W) (calls : Calls S) (old new : LoopState W S)
    : Type 0 where
  pub now : ℕ
  pub told : LoopState W S
  pub wakes : Wakes old told
  pub taken : LoopState W S
  pub takes : TakesWaiting calls now told taken
  pub served : LoopState W S
  pub serves : ServesReady wires calls now taken served
  pub passes : Passes calls now served new

-- A turn with not enough memory for a message.
pub record FailsForMemory {W S : Type 0} (wires : WireCalls W) (calls : Calls S)
    (old new : LoopState W S) : Type 0 where
  pub now : ℕ
  pub told : LoopState W S
  pub wakes : Wakes old told
  pub taken : LoopState W S
  pub takes : TakesWaiting calls now told taken
  pub fails : FailsReady wires calls now taken new

-- A turn that fails: the poll or the clock did, before anything was done, or there was not enough
-- memory for a message.
abbrev pub Fails : {W S : Type 0} → WireCalls W → Calls S → LoopState W S → LoopState W S → Type 0
Fails wires calls old new = Wakes old new ⊎ FailsForMemory wires calls old new

-- ---- words of private clauses

-- One more is taken, or none waits, or none can be taken.
abbrev pub TakesNext : {W S : Type 0} → Calls S → ℕ → LoopState W S → Bool → LoopState W S → Type 0
TakesNext calls now old true new = Takes calls now old new
TakesNext calls now old false new = new ≡ record old { comes = new.comes }
