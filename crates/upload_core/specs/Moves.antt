-- What the calls of an upload do.
use Rattle.std.specs.Prelude.{◌≡◌, ◌≢◌, ℕ, List, [], ◌∷◌, Option, Some, None, map, Bool, false}
use Rattle.std.specs.Prelude.{length, slice_get, slice_index_or, IsPermutation, AllPairs}
use Rattle.std.specs.Prelude.{if◌then◌else◌}
use Rattle.std.specs.List.{range_with_len}
use Rattle.std.specs.declared.cmp.Ordering.TheVariants.{Less}
use Rattle.wire.specs.declared.message.Message.{Message}
use Rattle.request_record.specs.declared.requests.Asked.{Asked}
use Rattle.request_record.specs.declared.requests.Asked.TheVariants.{Writing}
use Rattle.request_record.specs.declared.requests.Request.{Request}
use Rattle.request_record.specs.Asking.{after_message, after_tick, begun, lost_by_tick}
use Rattle.request_record.specs.Record.{RequestsState, asked_all, at, counts_at}
use Rattle.placement.specs.Ranking.{rank_cmp}
use Rattle.upload_core.specs.declared.status.ServerInfo.{ServerInfo}
use Rattle.upload_core.specs.declared.status.UploadStatus.{UploadStatus}
use Rattle.upload_core.specs.declared.pieces.PieceFault.TheVariants.{OutOfMemory}
use Rattle.upload_core.specs.declared.status.UploadStatus.TheVariants.{Running, Failed}
use Rattle.upload_core.specs.State.{Goal, UploadState, with_record}
use Rattle.upload_core.specs.Transfers.{follow_ups, waits_before}
use Rattle.upload_core.specs.Rounds.{EndsAs, IsOver, IsPlacing, IsSettled, IsToPlace}
use Rattle.upload_core.specs.Rounds.{Placing, transfers_of}

-- ended, with nothing left to ask
abbrev pub ended : UploadState → RequestsState → UploadStatus → UploadState
ended u r status = record u { requests = r; status = status }

-- the transfers of a placing begin
abbrev pub placed : UploadState → RequestsState → Placing → UploadState
placed u r p =
    record u { requests = asked_all (transfers_of u.goal p) r; round = length r.entries }

-- An upload goes on from a record: it waits, places shares, or ends.
pub data GoesOn (u : UploadState) (r : RequestsState) (new : UploadState) : Type 0 where
  waits : (IsSettled r.entries → ⊥) → new ≡ with_record u r → GoesOn u r new
  positions : (p : Placing) → IsSettled r.entries → IsToPlace u r → IsPlacing u.goal r.entries p
      → transfers_of u.goal p ≢ [] → new ≡ placed u r p → GoesOn u r new
  ends : (status : UploadStatus) → IsSettled r.entries → IsOver u r
      → EndsAs u.goal u.happy r.entries status → new ≡ ended u r status → GoesOn u r new

-- these requests of a server
abbrev pub asks_of_server : ℕ → List Asked → List (ℕ × Asked)
asks_of_server server asks = map (λ (asked : Asked). (server, asked)) asks

-- what is asked of a server at once after its request was answered or lost
abbrev pub follow_ups_of : Goal → List Request → Option Request → List (ℕ × Asked)
follow_ups_of g entries None = []
follow_ups_of g entries (Some r) = asks_of_server r.server (follow_ups g entries r)

-- the record once what follows the request at a position is asked
abbrev pub followed_at : Goal → ℕ → RequestsState → RequestsState
followed_at g position r =
    asked_all (follow_ups_of g r.entries (slice_get r.entries position)) r

-- the record once what follows these requests is asked, one after another
abbrev pub followed_all : Goal → List ℕ → RequestsState → RequestsState
followed_all g [] r = r
followed_all g (position ∷ others) r = followed_all g others (followed_at g position r)

-- does a piece before that of a request wait, in the same transfer?
abbrev pub is_early : List Request → ℕ → Asked → Bool
is_early entries server (Writing share offset len) = waits_before entries server share offset
is_early entries server asked = false

abbrev pub is_early_in : List Request → Option Request → Bool
is_early_in entries None = false
is_early_in entries (Some r) = is_early entries r.server r.asked

abbrev pub in_turn : List Request → Option ℕ → Option ℕ
in_turn entries None = None
in_turn entries (Some position) =
    if is_early_in entries (slice_get entries position) then None else Some position

-- the position of the request that a message answers, where it counts and is in its turn: an answer
-- to a piece counts once no piece before it waits, and until then the piece waits for another
abbrev pub heard_at : ℕ → Message → RequestsState → Option ℕ
heard_at from m r = in_turn r.entries (counts_at from m r)

-- the record after a message at a time
abbrev pub heard : Option ℕ → ℕ → Message → ℕ → RequestsState → RequestsState
heard None from m now r = at now r
heard (Some position) from m now r = after_message from m now r

abbrev pub after_heard : ℕ → Message → ℕ → RequestsState → RequestsState
after_heard from m now r = heard (heard_at from m r) from m now r

-- A message at a time: one that does not count moves the time alone, and so does each once the
-- upload ended.
abbrev pub AdvancesAt : Option ℕ → RequestsState → UploadState → UploadState → Type 0
AdvancesAt None r old new = new ≡ with_record old r
AdvancesAt (Some position) r old new = GoesOn old (followed_at old.goal position r) new

pub record Advances (from : ℕ) (m : Message) (now : ℕ) (old new : UploadState) : Type 0 where
  pub running : old.status ≡ Running
      → AdvancesAt (heard_at from m old.requests) (after_heard from m now old.requests) old new
  pub ended : old.status ≢ Running → new ≡ with_record old (after_heard from m now old.requests)

-- A step found no memory: what the upload is for stays, its record went on, and some of what
-- follows is asked.
pub record Stops (r : RequestsState) (old new : UploadState) : Type 0 where
  pub goal : new.goal ≡ old.goal
  pub happy : new.happy ≡ old.happy
  pub servers : new.servers ≡ old.servers
  pub asks : List (ℕ × Asked)
  pub requests : new.requests ≡ asked_all asks r

-- A tick: what it finds lost is followed up, in the order of the record.
abbrev pub TicksWith : List ℕ → RequestsState → UploadState → UploadState → Type 0
TicksWith [] r old new = new ≡ with_record old r
TicksWith (first ∷ others) r old new =
    GoesOn old (followed_all old.goal (first ∷ others) r) new

pub record TicksOn (now : ℕ) (old new : UploadState) : Type 0 where
  pub running : old.status ≡ Running
      → TicksWith (lost_by_tick now old.requests) (after_tick now old.requests) old new
  pub ended : old.status ≢ Running → new ≡ with_record old (after_tick now old.requests)

-- A tick that finds no memory makes an upload fail, and its record is as it was, or went on.
pub data FailsAt (now : ℕ) (old new : UploadState) : Type 0 where
  at_once : new ≡ record old { status = Failed OutOfMemory } → FailsAt now old new
  later : new.status ≡ Failed OutOfMemory → Stops (after_tick now old.requests) old new
      → FailsAt now old new

-- A tick finds no memory: an upload that runs fails, and one that ended is as it was.
pub record StopsAt (now : ℕ) (old new : UploadState) : Type 0 where
  pub running : old.status ≡ Running → FailsAt now old new
  pub ended : old.status ≢ Running → new ≡ old

-- the node of the server at a position
abbrev pub node_at : List ServerInfo → ℕ → ℕ
node_at servers position = slice_index_or (map (λ (s : ServerInfo). s.node) servers) position 0

-- the nodes of the servers, in the order of the file
pub record AreInOrder (index : List ℕ) (servers : List ServerInfo) (nodes : List ℕ) : Type 0 where
  pub positions : List ℕ
  pub all : IsPermutation (range_with_len 0 (length servers)) positions
  pub ranked : AllPairs
      (λ i j. rank_cmp index (map (λ (s : ServerInfo). s.id) servers) i j ≡ Less) positions
  pub nodes_are : nodes ≡ map (node_at servers) positions

-- a running upload that has asked these servers which shares they hold
abbrev pub initial : Goal → ℕ → List ℕ → ℕ → ℕ → UploadState
initial goal happy nodes session now =
    record {
      goal = goal;
      happy = happy;
      servers = nodes;
      requests = begun nodes session now;
      round = 0;
      status = Running;
    }

-- An upload begins: all servers are asked, in the order of the file. With none it ends at once.
pub record Begins (goal : Goal) (happy : ℕ) (servers : List ServerInfo) (session now : ℕ)
    (u : UploadState) : Type 0 where
  pub goal_is : u.goal ≡ goal
  pub happy_is : u.happy ≡ happy
  pub ordered : AreInOrder goal.cap.storage_index servers u.servers
  pub goes : GoesOn (initial goal happy u.servers session now) (begun u.servers session now) u
