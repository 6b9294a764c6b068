-- The headline: what holds of every world, however its nodes lie and whatever comes in which order.
use Rattle.std.specs.Prelude.{◌≡◌, ℕ, ◌+◌, ◌<◌, ◌≤◌, List, [], Some, length}
use Rattle.std.specs.Prelude.{slice_get, slice_index_or, Contains}
use Rattle.tagged_hash.specs.Clash.{HasNoClashIn}
use Rattle.tagged_hash.specs.TaggedHash.{tagged_input}
use Rattle.tagged_hash.specs.declared.tag.Tag.TheVariants.{WholeShare}
use Rattle.cap_text.specs.Cap.{ReadCapValue}
use Rattle.wire.specs.declared.message.Message.{Message}
use Rattle.wire.specs.declared.message.ShareId.{ShareId}
use Rattle.wire.specs.Frames.{IsBodyOf}
use Rattle.request_record.specs.declared.requests.Request.{Request}
use Rattle.share_store.specs.Memory.{MemoryState}
use Rattle.share_store.specs.Shelf.{closed_at}
use Rattle.share_store.specs.declared.shelf.ClosedShare.{ClosedShare}
use Rattle.server_core.specs.ServerState.{ServerState}
use Rattle.placement.specs.Matching.{IsMatching, Pair}
use Rattle.file_encoding.specs.Inputs.{encoding_inputs}
use Rattle.file_encoding.specs.Params.{UploadParameters, parameters_of}
use Rattle.file_upload.specs.Prepared.{goal_of, prepared_of}
use Rattle.upload_core.specs.declared.status.UploadStatus.TheVariants.{Happy}
use Rattle.upload_core.specs.Acknowledged.{acked_answer, acked_pairs}
use Rattle.upload_core.specs.Sending as upload_sends
use Rattle.upload_core.specs.State.{Goal}
use Rattle.download_segments.specs.declared.piece.Piece.{Piece}
use Rattle.world_operations.specs.declared.job.Job.TheVariants.{Download}
use Rattle.world_operations.specs.declared.message.Sent.{Sent}
use Rattle.world_operations.specs.declared.operation.Operation.{Operation}
use Rattle.world_operations.specs.declared.task.Task.TheVariants.{Uploading}
use Rattle.world_operations.specs.declared.upload_pieces.UploadPieces.{UploadPieces}
use Rattle.world_operations.specs.Given.{IsHashedBy}
use Rattle.world_operations.specs.Jobs.{HasOneKey, Uploads}
use Rattle.world.specs.State.{WorldState}

-- ---- what was hashed

-- a share is closed at this server, and this is hashed for its digest
pub record IsClosedInput (m : ServerState MemoryState) (input : List ℕ) : Type 0 where
  pub id : ShareId
  pub share : ClosedShare
  pub found : closed_at id m.store.shelf.closed ≡ Some share
  pub is : input ≡ tagged_input WholeShare share.bytes

-- For the files whose uploads were started (of a source that changes, where both passes have one
-- key), by downloads for what they found, and of the shares
-- that are closed at honest servers.
pub data IsHashedIn (operations : List Operation) (servers : List (ServerState MemoryState))
    (input : List ℕ) : Type 0 where
  started : (op : Operation) (file secret : List ℕ) (p : UploadParameters) → Contains operations op
      → Uploads op.job file secret p → HasOneKey op.job
      → Contains (encoding_inputs file secret (parameters_of p)) input
      → IsHashedIn operations servers input
  downloaded : (op : Operation) → Contains operations op → IsHashedBy op.task input
      → IsHashedIn operations servers input
  closed : (m : ServerState MemoryState) → Contains servers m → IsClosedInput m input
      → IsHashedIn operations servers input

abbrev pub IsHashed : WorldState → List ℕ → Type 0
IsHashed w = IsHashedIn w.operations w.servers

-- no two of these clash
abbrev pub HasNoClash : WorldState → Type 0
HasNoClash w = HasNoClashIn (IsHashed w)

-- ---- what was answered

-- a download of a cap handed this byte out for this position
pub record IsGiven (w : WorldState) (cap : ReadCapValue) (position byte : ℕ) : Type 0 where
  pub number : ℕ
  pub operation : Operation
  pub from : ℕ
  pub to : ℕ
  pub piece : Piece
  pub offset : ℕ
  pub at : slice_get w.operations number ≡ Some operation
  pub job : operation.job ≡ Download cap from to
  pub handed_out : Contains operation.given piece
  pub position_is : position ≡ piece.offset + offset
  pub byte_is : slice_get piece.bytes offset ≡ Some byte

-- this operation is an upload of a file
pub record IsUploadOf (w : WorldState) (number : ℕ) (file secret : List ℕ) (p : UploadParameters)
    (operation : Operation) (upload : upload_sends.Uploading UploadPieces) : Type 0 where
  pub at : slice_get w.operations number ≡ Some operation
  pub uploads : Uploads operation.job file secret p
  pub task : operation.task ≡ Uploading upload

-- an upload of a file answered Happy with these pairs
pub record IsUploaded (w : WorldState) (file secret : List ℕ) (p : UploadParameters)
    (pairs : List Pair) : Type 0 where
  pub number : ℕ
  pub operation : Operation
  pub upload : upload_sends.Uploading UploadPieces
  pub upload_of : IsUploadOf w number file secret p operation upload
  pub status : upload.course.status ≡ Happy pairs

-- what is to be placed of a file
abbrev pub goal : List ℕ → List ℕ → UploadParameters → Goal
goal file secret p = goal_of (prepared_of file secret p)

-- An answer that acknowledges a pair to an upload of this file was sent, whether it was delivered
-- or not.
pub record IsAcknowledgement (w : WorldState) (file secret : List ℕ) (p : UploadParameters)
    (pair : Pair) : Type 0 where
  pub frame : Sent
  pub answer : Message
  pub operation : Operation
  pub upload : upload_sends.Uploading UploadPieces
  pub position : ℕ
  pub request : Request
  pub was_sent : Contains w.sent frame
  pub spelled : IsBodyOf answer frame.body
  pub upload_of : IsUploadOf w answer.session file secret p operation upload
  pub entry : slice_get upload.course.requests.entries position ≡ Some request
  pub number : answer.number ≡ position + 1
  pub from : frame.from ≡ request.server
  pub to : frame.to ≡ operation.node
  pub acknowledges : Contains
      (acked_answer (goal file secret p) request.server request.asked answer.body) pair

-- at a server the closed bytes of a share are exactly these
pub record Keeps (w : WorldState) (server : ℕ) (index : List ℕ) (share : ℕ) (bytes : List ℕ)
    : Type 0 where
  pub machine : ServerState MemoryState
  pub closed : ClosedShare
  pub at : slice_get w.servers server ≡ Some machine
  pub found : closed_at (record { index = index; share = share }) machine.store.shelf.closed
      ≡ Some closed
  pub bytes_are : closed.bytes ≡ bytes

-- the pair's server, where it is honest, keeps the file's share
abbrev pub KeepsShare : WorldState → List ℕ → List ℕ → UploadParameters → Pair → Type 0
KeepsShare w file secret p pair = pair.0 < length w.servers
    → Keeps w pair.0 (goal file secret p).cap.storage_index pair.1
    (slice_index_or (prepared_of file secret p).shares pair.1 [])

-- ---- the claims

-- An upload that answers Happy names acknowledged pairs, no server and no share twice, as many as
-- were wanted.
pub record IsMatched (file secret : List ℕ) (p : UploadParameters) (entries : List Request)
    (pairs : List Pair) : Type 0 where
  pub matching : IsMatching (acked_pairs (goal file secret p) entries) pairs
  pub enough : p.happy ≤ length pairs

abbrev pub HappyIsMatched : WorldState → Type 0
HappyIsMatched w =
    (file secret : List ℕ) (p : UploadParameters) (pairs : List Pair)
    → (up : IsUploaded w file secret p pairs)
    → IsMatched file secret p up.upload.course.requests.entries pairs

-- Each of these pairs was acknowledged by a message that was sent: by the server that it names, to
-- the node that uploads.
abbrev pub HappyIsAcknowledged : WorldState → Type 0
HappyIsAcknowledged w =
    (file secret : List ℕ) (p : UploadParameters) (pairs : List Pair) (pair : Pair)
    → IsUploaded w file secret p pairs → Contains pairs pair
    → IsAcknowledgement w file secret p pair

-- And every honest server among them keeps exactly its share.
abbrev pub HonestKeep : WorldState → Type 0
HonestKeep w =
    (file secret : List ℕ) (p : UploadParameters) (pairs : List Pair) (pair : Pair)
    → IsUploaded w file secret p pairs → Contains pairs pair → KeepsShare w file secret p pair

-- Which it does from the moment on at which its acknowledgement was sent.
abbrev pub AcknowledgedKeep : WorldState → Type 0
AcknowledgedKeep w =
    (file secret : List ℕ) (p : UploadParameters) (pair : Pair)
    → IsAcknowledgement w file secret p pair → KeepsShare w file secret p pair

-- No position of a cap's file has two bytes in what downloads were handed: running, ended or
-- forgotten, and whoever made the cap.
abbrev pub DownloadsAgree : WorldState → Type 0
DownloadsAgree w = (cap : ReadCapValue) (position a b : ℕ) → IsGiven w cap position a
    → IsGiven w cap position b → a ≡ b

-- And where an upload answered Happy with that cap, each byte is its file's.
abbrev pub FilesAreGiven : WorldState → Type 0
FilesAreGiven w =
    (file secret : List ℕ) (p : UploadParameters) (pairs : List Pair) (position byte : ℕ)
    → IsUploaded w file secret p pairs → IsGiven w (prepared_of file secret p).cap position byte
    → slice_get file position ≡ Some byte

-- The headline, of one world. It holds of every world: each is made by `new`, and changed by events
-- alone.
pub record IsTrusted (w : WorldState) : Type 0 where
  pub happy_is_matched : HappyIsMatched w
  pub happy_is_acknowledged : HappyIsAcknowledged w
  pub honest_keep : HasNoClash w → HonestKeep w
  pub acknowledged_keep : HasNoClash w → AcknowledgedKeep w
  pub downloads_agree : HasNoClash w → DownloadsAgree w
  pub files_are_given : HasNoClash w → FilesAreGiven w
