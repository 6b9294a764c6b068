-- How an operation's machine goes on, whatever it is.
use Rattle.std.specs.Prelude.{◌≡◌, ℕ, ◌+◌, List, ◌++◌, Some, true, slice_get, Contains}
use Rattle.placement.specs.Matching.{Pair}
use Rattle.wire.specs.declared.message.Message.{Message}
use Rattle.wire.specs.Frames.{IsBodyOf}
use Rattle.request_record.specs.declared.requests.Request.{Request}
use Rattle.request_record.specs.Asking.{Spells, fresh}
use Rattle.request_record.specs.Follow.{Follows, Nothing, Said}
use Rattle.server_core.specs.Sound.{is_request}
use Rattle.download_segments.specs.declared.piece.Piece.{Piece}
use Rattle.download_shares.specs.declared.holding.Blame.{Blame}
use Rattle.download_core.specs.declared.status.DownloadStatus.{DownloadStatus}
use Rattle.world_operations.specs.declared.job.Job.{Job}
use Rattle.world_operations.specs.declared.message.Sent.{Sent}
use Rattle.world_operations.specs.declared.operation.Operation.{Operation}
use Rattle.world_operations.specs.declared.task.Task.{Task}
use Rattle.world_operations.specs.declared.task.Task.TheVariants.{Gone}
use Rattle.world_operations.specs.Asked.{HasAsked}
use Rattle.world_operations.specs.Given.{AreGivenBy, IsGivenBy, IsHashedBy, IsTestedBy}
use Rattle.world_operations.specs.Jobs.{IsFor}
use Rattle.world_operations.specs.Tasks.{HasBlamed, HasEnded, HasShares, IsHappyTask, index_of}
use Rattle.world_operations.specs.Tasks.{requests_of}

-- A machine goes on: it is for the same, its record follows, an upload keeps its shares and stays
-- Happy, what a download gave and hashed stays so, and so does what a download or a check tested.
-- How a download ended, and whom it blamed, stays. Servers that it asked which shares they hold
-- stay asked. One that is gone stays gone.
pub record GoesOn (New : Said) (old new : Task) : Type 0 where
  pub follows : Follows New (requests_of old) (requests_of new)
  pub index : index_of new ≡ index_of old
  pub is_for : (job : Job) → IsFor job old → IsFor job new
  pub happy : (pairs : List Pair) → IsHappyTask old pairs → IsHappyTask new pairs
  pub shares : (these : List (List ℕ)) → HasShares old these → HasShares new these
  pub given : (p : Piece) → IsGivenBy old p → IsGivenBy new p
  pub hashed : (input : List ℕ) → IsHashedBy old input → IsHashedBy new input
  pub tested : (input : List ℕ) → IsTestedBy old input → IsTestedBy new input
  pub ended : (status : DownloadStatus) → HasEnded old status → HasEnded new status
  pub blamed : (position : ℕ) (b : Blame) → HasBlamed old position b → HasBlamed new position b
  pub asked : (servers : List ℕ) → HasAsked servers old → HasAsked servers new
  pub gone : (number : ℕ) → old ≡ Gone number → new ≡ Gone number

-- a message is a request of this machine, by its number
pub record IsRequestBy (task : Task) (x : Sent) (m : Message) : Type 0 where
  pub position : ℕ
  pub request : Request
  pub entry : slice_get (requests_of task).entries position ≡ Some request
  pub number : m.number ≡ position + 1
  pub server : x.to ≡ request.server
  pub spelled : Spells (index_of task) request.asked m.body

-- what was sent is the frame of a request of this machine
pub record IsFrameOf (task : Task) (node : ℕ) (x : Sent) : Type 0 where
  pub message : Message
  pub body : IsBodyOf message x.body
  pub from : x.from ≡ node
  pub session : message.session ≡ (requests_of task).session
  pub request : IsRequestBy task x message
  pub asks : is_request message.body ≡ true

-- a machine goes on, and frames of its requests are sent
pub record SendsSome (New : Said) (node : ℕ) (old new : Task) (before after : List Sent)
    : Type 0 where
  pub goes : GoesOn New old new
  pub more : List Sent
  pub appended : after ≡ before ++ more
  pub frames : (x : Sent) → Contains more x → IsFrameOf new node x

-- the same operation, which may have handed more out
pub record IsSameOperation (old new : Operation) : Type 0 where
  pub node : new.node ≡ old.node
  pub job : new.job ≡ old.job
  pub sent_before : new.sent_before ≡ old.sent_before
  pub life : new.life ≡ old.life
  pub pieces : List Piece
  pub given : new.given ≡ old.given ++ pieces

-- what every call of an operation does, also one that finds no memory
pub record Moves (New : Said) (old new : Operation) (before after : List Sent) : Type 0 where
  pub same : IsSameOperation old new
  pub task : SendsSome New old.node old.task new.task before after
  pub given : AreGivenBy old.task old.given → AreGivenBy new.task new.given

-- a machine that has just begun: it is for its job, its record is new, and it asks all these nodes
pub record IsNewTask (nodes : List ℕ) (session : ℕ) (job : Job) (task : Task) : Type 0 where
  pub is_for : IsFor job task
  pub asked : HasAsked nodes task
  pub clock : ℕ
  pub follows : Follows Nothing (fresh session clock) (requests_of task)
