-- Beside the headline: what holds of the repairs of every world.
use Rattle.std.specs.Prelude.{◌≡◌, ◌≢◌, ℕ, ◌+◌, ◌<◌, ◌≤◌, List, [], Some, length, slice_get}
use Rattle.std.specs.Prelude.{slice_index_or, Contains}
use Rattle.tagged_hash.specs.Clash.{HasNoClashIn}
use Rattle.cap_text.specs.Cap.{VerifyCapValue, verify_cap_of}
use Rattle.wire.specs.declared.message.Message.{Message}
use Rattle.wire.specs.Frames.{IsBodyOf}
use Rattle.request_record.specs.declared.requests.Request.{Request}
use Rattle.placement.specs.Matching.{IsMatching, Pair}
use Rattle.file_encoding.specs.Params.{UploadParameters}
use Rattle.file_encoding.specs.RemadeLaws.{ArePassing}
use Rattle.file_upload.specs.Prepared.{prepared_of}
use Rattle.file_upload.specs.Shares.{shares_goal}
use Rattle.upload_core.specs.Acknowledged.{acked_answer, acked_pairs}
use Rattle.upload_core.specs.Sending as upload_sends
use Rattle.world_operations.specs.declared.job.Job.{Job}
use Rattle.world_operations.specs.declared.job.Job.TheVariants.{NoRepair}
use Rattle.world_operations.specs.declared.job.Unmade.TheVariants.{Inconsistent}
use Rattle.world_operations.specs.declared.message.Sent.{Sent}
use Rattle.world_operations.specs.declared.operation.Operation.{Operation}
use Rattle.world_operations.specs.declared.task.Task.{Task}
use Rattle.world_operations.specs.declared.upload_pieces.UploadPieces.{UploadPieces}
use Rattle.world_operations.specs.declared.upload_pieces.UploadPieces.TheVariants.{Whole}
use Rattle.world_operations.specs.Jobs.{HasOneKey, Uploads}
use Rattle.world.specs.Headline.{IsHashed, Keeps}
use Rattle.world.specs.Repaired.{IsHashedByRepair, IsRepairOf, IsRepaired}
use Rattle.world.specs.Started.{HasNoClashInTests, IsStarted}
use Rattle.world.specs.State.{WorldState}
use Rattle.world.specs.Step.{RepairBegins}

-- What was hashed, also for repairs: all that the headline speaks of, and the shares that they
-- made.
pub data IsHashedInAll (w : WorldState) (input : List ℕ) : Type 0 where
  told : IsHashed w input → IsHashedInAll w input
  repaired : (op : Operation) → Contains w.operations op → IsHashedByRepair op input
      → IsHashedInAll w input

-- no two of these clash
abbrev pub HasNoClashInAll : WorldState → Type 0
HasNoClashInAll w = HasNoClashIn (IsHashedInAll w)

-- An answer that acknowledges a pair to a repair that made these shares was sent, whether it was
-- delivered or not.
pub record IsRepairAcknowledgement (w : WorldState) (cap : VerifyCapValue) (happy : ℕ)
    (shares : List (List ℕ)) (pair : Pair) : Type 0 where
  pub frame : Sent
  pub answer : Message
  pub operation : Operation
  pub upload : upload_sends.Uploading UploadPieces
  pub position : ℕ
  pub request : Request
  pub was_sent : Contains w.sent frame
  pub spelled : IsBodyOf answer frame.body
  pub repair_of : IsRepairOf w answer.session cap happy operation upload
  pub shares_are : upload.pieces ≡ Whole shares
  pub entry : slice_get upload.course.requests.entries position ≡ Some request
  pub number : answer.number ≡ position + 1
  pub from : frame.from ≡ request.server
  pub to : frame.to ≡ operation.node
  pub acknowledges : Contains
      (acked_answer (shares_goal cap shares) request.server request.asked answer.body) pair

-- the pair's server, where it is honest, keeps the share that was made
abbrev pub KeepsMade : WorldState → VerifyCapValue → List (List ℕ) → Pair → Type 0
KeepsMade w cap shares pair = pair.0 < length w.servers
    → Keeps w pair.0 cap.storage_index pair.1 (slice_index_or shares pair.1 [])

-- ---- the claims

-- What a repair made are shares for its cap, whoever made that: as many as it says, of which each
-- passes every check as the share of its number.
abbrev pub RepairsPass : WorldState → Type 0
RepairsPass w =
    (cap : VerifyCapValue) (happy number : ℕ) (operation : Operation)
    (upload : upload_sends.Uploading UploadPieces)
    → IsRepairOf w number cap happy operation upload
    → (shares : List (List ℕ)) × (upload.pieces ≡ Whole shares) × ArePassing cap shares

-- A repair that answers Happy names acknowledged pairs, no server and no share twice, as many as
-- were wanted.
pub record IsRepairMatched (cap : VerifyCapValue) (happy : ℕ) (shares : List (List ℕ))
    (entries : List Request) (pairs : List Pair) : Type 0 where
  pub matching : IsMatching (acked_pairs (shares_goal cap shares) entries) pairs
  pub enough : happy ≤ length pairs

abbrev pub RepairsAreMatched : WorldState → Type 0
RepairsAreMatched w =
    (cap : VerifyCapValue) (happy : ℕ) (shares : List (List ℕ)) (pairs : List Pair)
    → (repair : IsRepaired w cap happy shares pairs)
    → IsRepairMatched cap happy shares repair.upload.course.requests.entries pairs

-- Each of these pairs was acknowledged by a message that was sent: by the server that it names, to
-- the node that repairs, by the digest of the share that was made.
abbrev pub RepairsAreAcknowledged : WorldState → Type 0
RepairsAreAcknowledged w =
    (cap : VerifyCapValue) (happy : ℕ) (shares : List (List ℕ)) (pairs : List Pair) (pair : Pair)
    → IsRepaired w cap happy shares pairs → Contains pairs pair
    → IsRepairAcknowledgement w cap happy shares pair

-- Every honest server among them keeps exactly the share that was made, from the moment on at which
-- its acknowledgement was sent.
abbrev pub RepairsKeep : WorldState → Type 0
RepairsKeep w =
    (cap : VerifyCapValue) (happy : ℕ) (shares : List (List ℕ)) (pair : Pair)
    → IsRepairAcknowledgement w cap happy shares pair → KeepsMade w cap shares pair

-- And where the upload of a file was started with that cap, what was made is the file's own shares.
abbrev pub RepairsMakeOwn : WorldState → Type 0
RepairsMakeOwn w =
    (file secret : List ℕ) (p : UploadParameters) (happy number position : ℕ)
    (started repair : Operation) (upload : upload_sends.Uploading UploadPieces)
    → slice_get w.operations number ≡ Some started → Uploads started.job file secret p
    → HasOneKey started.job
    → IsRepairOf w position (verify_cap_of (prepared_of file secret p).cap) happy repair upload
    → upload.pieces ≡ Whole (prepared_of file secret p).shares

-- No repair that begins of what a check found, where the upload of a file was started with the
-- check's cap, is over at once since the good shares contradict one another.
abbrev pub RepairsNeverContradict : WorldState → Type 0
RepairsNeverContradict w =
    (file secret : List ℕ) (p : UploadParameters) (node number happy : ℕ) (job : Job) (first : Task)
    → IsStarted w file secret p → RepairBegins w node number happy job first
    → job ≢ NoRepair (verify_cap_of (prepared_of file secret p).cap) Inconsistent

-- What holds of the repairs of one world. It holds of every world.
pub record AreTrustedRepairs (w : WorldState) : Type 0 where
  pub repairs_pass : RepairsPass w
  pub repairs_are_matched : RepairsAreMatched w
  pub repairs_are_acknowledged : RepairsAreAcknowledged w
  pub repairs_keep : HasNoClashInAll w → RepairsKeep w
  pub repairs_make_own : HasNoClashInAll w → RepairsMakeOwn w
  pub repairs_never_contradict : HasNoClashInTests w → RepairsNeverContradict w
