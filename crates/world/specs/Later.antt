-- What stays whatever comes.
use Rattle.std.specs.Prelude.{◌≡◌, ℕ, List, ◌++◌, Some, length, slice_get}
use Rattle.cap_text.specs.Cap.{ReadCapValue, VerifyCapValue}
use Rattle.placement.specs.Matching.{Pair}
use Rattle.request_record.specs.Follow.{StillAsks}
use Rattle.request_record.specs.declared.requests.Request.{Request}
use Rattle.download_core.specs.declared.status.DownloadStatus.{DownloadStatus}
use Rattle.download_shares.specs.declared.holding.Blame.{Blame}
use Rattle.file_encoding.specs.Params.{UploadParameters}
use Rattle.world_operations.specs.declared.message.Sent.{Sent}
use Rattle.world_operations.specs.declared.operation.Operation.{Operation}
use Rattle.world_operations.specs.declared.task.Task.{Task}
use Rattle.world_operations.specs.declared.task.Task.TheVariants.{Gone}
use Rattle.world_operations.specs.Tasks.{HasBlamed, HasEnded, requests_of}
use Rattle.world.specs.Headline.{HasNoClash, IsGiven, IsHashed, IsUploaded, Keeps}
use Rattle.world.specs.Repaired.{IsRepaired}
use Rattle.world.specs.Repairs.{HasNoClashInAll, IsHashedInAll}
use Rattle.world.specs.Started.{HasNoClashInTests, IsHashedOrTested}
use Rattle.world.specs.State.{WorldState}

-- it has no machine
abbrev pub IsGone : Task → Type 0
IsGone task = (number : ℕ) × (task ≡ Gone number)

-- An operation stands at its position, as it was or further on: of the same node, for the same job
-- and begun at the same moment. What it asked stays asked, and what was answered stays answered.
-- How a download ended stays, and whom it blamed. A machine that is gone stays gone.
pub record StaysAt (w : WorldState) (number : ℕ) (old : Operation) : Type 0 where
  pub operation : Operation
  pub at : slice_get w.operations number ≡ Some operation
  pub node : operation.node ≡ old.node
  pub job : operation.job ≡ old.job
  pub sent_before : operation.sent_before ≡ old.sent_before
  pub gone : IsGone old.task → IsGone operation.task
  pub asked : (position : ℕ) (r : Request)
      → slice_get (requests_of old.task).entries position ≡ Some r
      → StillAsks (requests_of operation.task).entries position r
  pub ended : (status : DownloadStatus) → HasEnded old.task status
      → HasEnded operation.task status
  pub blamed : (position : ℕ) (b : Blame) → HasBlamed old.task position b
      → HasBlamed operation.task position b

-- What was answered stays: a later world has all that was hashed, tested and made, every operation,
-- every byte that was handed out, every upload and every repair that answered Happy, every share
-- that was closed, and all that was sent, and its nodes are the same.
pub record IsLater (old new : WorldState) : Type 0 where
  pub hashed : (input : List ℕ) → IsHashed old input → IsHashed new input
  pub tested : (input : List ℕ) → IsHashedOrTested old input → IsHashedOrTested new input
  pub made : (input : List ℕ) → IsHashedInAll old input → IsHashedInAll new input
  pub operations : (number : ℕ) (operation : Operation)
      → StaysAt old number operation → StaysAt new number operation
  pub given : (cap : ReadCapValue) (position byte : ℕ) → IsGiven old cap position byte
      → IsGiven new cap position byte
  pub uploaded : (file secret : List ℕ) (p : UploadParameters) (pairs : List Pair)
      → IsUploaded old file secret p pairs → IsUploaded new file secret p pairs
  pub repaired : (cap : VerifyCapValue) (happy : ℕ) (shares : List (List ℕ)) (pairs : List Pair)
      → IsRepaired old cap happy shares pairs → IsRepaired new cap happy shares pairs
  pub kept : (server : ℕ) (index : List ℕ) (share : ℕ) (bytes : List ℕ)
      → Keeps old server index share bytes → Keeps new server index share bytes
  pub more : List Sent
  pub sent : new.sent ≡ old.sent ++ more
  pub honest : length new.servers ≡ length old.servers
  pub liars : length new.heard ≡ length old.heard

-- a law: where nothing clashes in a later world, nothing clashes in an earlier one
pub record NothingClashedBefore (old new : WorldState) : Type 0 where
  pub hashed : HasNoClash new → HasNoClash old
  pub tested : HasNoClashInTests new → HasNoClashInTests old
  pub made : HasNoClashInAll new → HasNoClashInAll old
