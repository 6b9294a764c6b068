-- What holds of every world, and carries the headline: servers are sound, what honest nodes sent is
-- so, and what was counted was sent.
use Rattle.std.specs.Prelude.{◌≡◌, ℕ, ◌+◌, ◌<◌, ◌≤◌, List, length, true, false, Some, slice_get}
use Rattle.std.specs.Prelude.{[], Contains}
use Rattle.std.specs.List.{range_with_len}
use Rattle.wire.specs.declared.message.Body.{Body}
use Rattle.wire.specs.declared.message.Body.TheVariants.{Write}
use Rattle.wire.specs.declared.message.Message.{Message}
use Rattle.wire.specs.Frames.{IsBodyOf}
use Rattle.request_record.specs.declared.requests.Asked.{Asked}
use Rattle.request_record.specs.declared.requests.Outcome.TheVariants.{Answered}
use Rattle.request_record.specs.declared.requests.Request.{Request}
use Rattle.share_store.specs.Memory.{MemoryState}
use Rattle.server_core.specs.ServerState.{ServerState}
use Rattle.server_core.specs.Sound.{IsAnswer, IsSound, is_request}
use Rattle.world_operations.specs.declared.message.Sent.{Sent}
use Rattle.world_operations.specs.declared.operation.Operation.{Operation}
use Rattle.world_operations.specs.declared.task.Task.TheVariants.{Gone}
use Rattle.world_operations.specs.Asked.{HasAsked}
use Rattle.request_record.specs.Follow.{IsSaid}
use Rattle.world_operations.specs.Follow.{IsRequestBy}
use Rattle.world_operations.specs.Given.{AreGivenBy}
use Rattle.world_operations.specs.Jobs.{IsFor}
use Rattle.world_operations.specs.Tasks.{IsRightTask, requests_of}
use Rattle.world.specs.History.{AnswersComeAfter, HasHistory}
use Rattle.world.specs.Later.{IsLater}
use Rattle.world.specs.State.{WorldState, shelved}

-- an answer of an honest server belongs to a request that was sent to it, and what it tells is so
pub record IsJustified (m : ServerState MemoryState) (sent : List Sent) (x : Sent)
    (answer : Message)
    : Type 0 where
  pub frame : Sent
  pub request : Message
  pub was_sent : Contains sent frame
  pub spelled : IsBodyOf request frame.body
  pub from : frame.from ≡ x.to
  pub to : frame.to ≡ x.from
  pub answers : IsAnswer (shelved m).store request answer

-- a message is a request of an operation, of which nothing is known once its machine is gone
pub data IsRequestOf (op : Operation) (x : Sent) (m : Message) : Type 0 where
  gone : (number : ℕ) → op.task ≡ Gone number → IsRequestOf op x m
  asked : op.node ≡ x.from → IsRequestBy op.task x m → IsRequestOf op x m

-- a request of an honest node is one of its operation's record
pub record IsRecorded (operations : List Operation) (x : Sent) (m : Message) : Type 0 where
  pub operation : Operation
  pub at : slice_get operations m.session ≡ Some operation
  pub request : IsRequestOf operation x m

-- a request without the bytes that it writes, which a source may bring otherwise when it is read
-- again
abbrev pub without_bytes : Body → Body
without_bytes (Write id offset bytes) = Write id offset []
without_bytes body = body

-- Two requests of honest nodes with one session and one number are one, but for the bytes that they
-- write.
abbrev pub AreOneRequest : ℕ → List Sent → Type 0
AreOneRequest honest sent = (x y : Sent) (m n : Message) → Contains sent x → Contains sent y
    → x.from < honest → y.from < honest → IsBodyOf m x.body → IsBodyOf n y.body
    → is_request m.body ≡ true → is_request n.body ≡ true → m.session ≡ n.session
    → m.number ≡ n.number → without_bytes m.body ≡ without_bytes n.body

-- an answer that counted was sent by the server asked
pub record CameFrom (sent : List Sent) (session node position server : ℕ) (asked : Asked)
    (said : Body) : Type 0 where
  pub frame : Sent
  pub answer : Message
  pub was_sent : Contains sent frame
  pub spelled : IsBodyOf answer frame.body
  pub to : frame.to ≡ node
  pub says : IsSaid frame.from answer session position server asked said

-- An operation is what it was started for, at an honest node, and has its position as session. Its
-- machine is right, asked each honest node which shares it holds, and gave what it handed out.
pub record IsFine (honest : ℕ) (sent : List Sent) (number : ℕ) (op : Operation) : Type 0 where
  pub node : op.node < honest
  pub started : IsFor op.job op.task
  pub session : (requests_of op.task).session ≡ number
  pub before : op.sent_before ≤ length sent
  pub answers : (position : ℕ) (request : Request) (said : Body)
      → slice_get (requests_of op.task).entries position ≡ Some request
      → request.outcome ≡ Answered said
      → CameFrom sent number op.node position request.server request.asked said
  pub right : IsRightTask op.task
  pub asked : HasAsked (range_with_len 0 honest) op.task
  pub given : AreGivenBy op.task op.given

-- Of a world its servers, its operations and what was sent: its time, and what liars heard, are
-- nothing to it.
pub record AreConsistent (servers : List (ServerState MemoryState)) (operations : List Operation)
    (sent : List Sent) : Type 0 where
  pub sound : (node : ℕ) (m : ServerState MemoryState) → slice_get servers node ≡ Some m
      → IsSound (shelved m)
  pub justified : (x : Sent) (m : ServerState MemoryState) (answer : Message) → Contains sent x
      → slice_get servers x.from ≡ Some m → IsBodyOf answer x.body
      → is_request answer.body ≡ false → IsJustified m sent x answer
  pub recorded : (x : Sent) (m : Message) → Contains sent x → x.from < length servers
      → IsBodyOf m x.body → is_request m.body ≡ true → IsRecorded operations x m
  pub one_request : AreOneRequest (length servers) sent
  pub fine : (number : ℕ) (op : Operation) → slice_get operations number ≡ Some op
      → IsFine (length servers) sent number op
  pub history : (node : ℕ) (m : ServerState MemoryState) → slice_get servers node ≡ Some m
      → HasHistory sent node m
  pub after : AnswersComeAfter (length servers) operations sent

abbrev pub IsConsistent : WorldState → Type 0
IsConsistent w = AreConsistent w.servers w.operations w.sent

-- what each change of a world does: it stays consistent, and what was answered stays
abbrev pub Preserves : WorldState → WorldState → Type 0
Preserves old new = IsConsistent old → IsConsistent new × IsLater old new

-- what is kept of each world
pub record IsKept (w : WorldState) : Type 0 where
  pub consistent : IsConsistent w
  pub few : length w.servers + length w.heard ≤ 256
