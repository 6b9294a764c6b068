-- What a server told once is told again in each later state.
use Rattle.std.specs.Prelude.{◌≡◌, ◌≤◌, ℕ, List, [], ◌∷◌, Some, Ok, take, drop}
use Rattle.tagged_hash.specs.TaggedHash.{share_digest}
use Rattle.wire.specs.declared.message.Body.{Body}
use Rattle.wire.specs.declared.message.Body.TheVariants.{Allocate, Already, Ask, Close, Closed}
use Rattle.wire.specs.declared.message.Body.TheVariants.{Data, Read, Write}
use Rattle.wire.specs.declared.message.Message.{Message}
use Rattle.wire.specs.declared.message.ShareId.{ShareId}
use Rattle.share_store.specs.Calls.{shelf_calls}
use Rattle.share_store.specs.Shelf.{Shelf, Restarts, closed_at}
use Rattle.share_store.specs.declared.shelf.ClosedShare.{ClosedShare}
use Rattle.server_core.specs.ServerState.{ServerState, Outcome, RestartsTo, Serves, Ticks}
use Rattle.server_core.specs.ServerState.{LetsGoOfEnded, without_client}
use Rattle.server_core.specs.Sound.{IsSound}
use Rattle.answer_laws.specs.Servers.Telling.{ListsShare}

-- ---- later states

-- one move of a server: a message from a client, a tick, a client that is forgotten, shares that
-- its store lets go of, or a restart
pub data Moves (old new : ServerState Shelf) : Type 0 where
  by_message : (from now : ℕ) (request : Message) (outcome : Outcome)
      → Serves shelf_calls old from request now outcome new → Moves old new
  by_tick : (now : ℕ) → Ticks old now new → Moves old new
  by_forgetting : (client : ℕ) → new ≡ without_client client old → Moves old new
  by_letting_go : LetsGoOfEnded shelf_calls old new → Moves old new
  by_restart : RestartsTo Restarts old new → Moves old new

-- The server moves from the first state through these, one by one, and so comes to the last.
abbrev pub GoesThrough : ServerState Shelf → List (ServerState Shelf) → ServerState Shelf → Type 0
GoesThrough first [] last = last ≡ first
GoesThrough first (next ∷ states) last = Moves first next × GoesThrough next states last

-- ---- what was told

-- an answer to a request tells that the share is closed with the digest
pub data TellsDigest (request answer : Body) (id : ShareId) (digest : List ℕ) : Type 0 where
  by_list : request ≡ Ask id.index → ListsShare answer id.share digest
      → TellsDigest request answer id digest
  by_allocate : (len : ℕ) → request ≡ Allocate id len → answer ≡ Already digest
      → TellsDigest request answer id digest
  by_write : (offset : ℕ) (bytes : List ℕ) → request ≡ Write id offset bytes
      → answer ≡ Already digest → TellsDigest request answer id digest
  by_close : request ≡ Close id → answer ≡ Closed digest → TellsDigest request answer id digest

-- ---- and is told again

-- The share is closed, each answer to an Ask lists it with its digest, and each to a read of it has
-- its bytes.
pub record IsTold (m : ServerState Shelf) (id : ShareId) (c : ClosedShare) : Type 0 where
  pub closed : closed_at id m.store.closed ≡ Some c
  pub asks : (new : ServerState Shelf) (from now : ℕ) (request r : Message)
      → request.body ≡ Ask id.index → Serves shelf_calls m from request now (Ok (Some r)) new
      → ListsShare r.body id.share c.digest
  pub reads : (new : ServerState Shelf) (from now : ℕ) (request r : Message) (offset len : ℕ)
      → request.body ≡ Read id offset len
      → Serves shelf_calls m from request now (Ok (Some r)) new
      → r.body ≡ Data (take len (drop offset c.bytes))

-- one closed share, of this digest, is told in this state and in each later one
pub record IsToldForGood (m : ServerState Shelf) (id : ShareId) (digest : List ℕ) : Type 0 where
  pub share : ClosedShare
  pub has : share.digest ≡ digest
  pub digest_of : share_digest share.bytes ≡ digest
  pub later : (states : List (ServerState Shelf)) (last : ServerState Shelf)
      → GoesThrough m states last
      → IsTold last id share

-- a law: what a sound server told once is told for good
abbrev pub ToldIsToldAgain : Type 0
ToldIsToldAgain = (old new : ServerState Shelf) (from now : ℕ) (request r : Message) (id : ShareId)
    (digest : List ℕ) → id.share ≤ 255 → IsSound old
    → Serves shelf_calls old from request now (Ok (Some r)) new
    → TellsDigest request.body r.body id digest → IsToldForGood new id digest
