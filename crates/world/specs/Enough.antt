-- Beside the headline: enough shares that honest nodes told are found.
use Rattle.std.specs.Prelude.{◌≡◌, ◌⊎◌, ℕ, ◌<◌, List, [], Some, Contains, length, slice_get}
use Rattle.std.specs.Prelude.{slice_index_or}
use Rattle.tagged_hash.specs.TaggedHash.{share_digest}
use Rattle.cap_text.specs.Cap.{verify_cap_of}
use Rattle.wire.specs.declared.message.Body.{Body}
use Rattle.wire.specs.declared.message.Body.TheVariants.{Ask, Allocate, Write, Close, Have, Already}
use Rattle.wire.specs.declared.message.Body.TheVariants.{Closed}
use Rattle.wire.specs.declared.message.Message.{Message}
use Rattle.wire.specs.declared.message.ShareId.{ShareId}
use Rattle.wire.specs.Frames.{IsBodyOf}
use Rattle.zfec_code.specs.Rows.{AreDistinct}
use Rattle.placement.specs.Matching.{Pair, shares_of}
use Rattle.file_encoding.specs.Params.{UploadParameters}
use Rattle.file_upload.specs.Prepared.{prepared_of}
use Rattle.download_core.specs.State.{DownloadState}
use Rattle.download_core.specs.declared.status.DownloadStatus.TheVariants.{NotEnoughShares}
use Rattle.checker.specs.Report.{IsReport}
use Rattle.checker.specs.State.{CheckState}
use Rattle.checker.specs.declared.status.CheckStatus.TheVariants.{Done}
use Rattle.checker.specs.declared.status.Report.{Report}
use Rattle.answer_laws.specs.Enough.Answers.{WasLost}
use Rattle.answer_laws.specs.Enough.Checks.{good}
use Rattle.answer_laws.specs.Enough.Downloads.{WasLostOf}
use Rattle.world_operations.specs.declared.message.Sent.{Sent}
use Rattle.world.specs.Headline.{goal}
use Rattle.world.specs.Started.{IsCheckOf, IsDownloadOf, IsStarted}
use Rattle.world.specs.State.{WorldState}

-- An answer to a request tells that a share is closed, by its digest: it lists the share under its
-- storage index, or says that it is there already, or is closed now.
abbrev pub TellsClosed : ShareId → List ℕ → Body → Body → Type 0
TellsClosed id digest (Ask index) (Have readonly held) =
    (index ≡ id.index) × Contains held (record { share = id.share; digest = digest })
TellsClosed id digest (Allocate asked len) (Already told) = (asked ≡ id) × (told ≡ digest)
TellsClosed id digest (Write asked offset bytes) (Already told) = (asked ≡ id) × (told ≡ digest)
TellsClosed id digest (Close asked) (Closed told) = (asked ≡ id) × (told ≡ digest)
TellsClosed id digest request answer = ⊥

-- Before a moment a server told an operation of an honest node that a share is closed, and by which
-- digest: in answer to its request, by session and number, and whatever became of the operation.
-- Moments are positions in the list of what was sent.
pub record WasTold (w : WorldState) (before server : ℕ) (id : ShareId) (digest : List ℕ)
    : Type 0 where
  pub moment : ℕ
  pub early : moment < before
  pub frame : Sent
  pub answer : Message
  pub was_sent : slice_get w.sent moment ≡ Some frame
  pub spelled : IsBodyOf answer frame.body
  pub from : frame.from ≡ server
  pub to : frame.to < length w.servers
  pub question : Sent
  pub request : Message
  pub was_asked : Contains w.sent question
  pub request_spelled : IsBodyOf request question.body
  pub asked_by : question.from ≡ frame.to
  pub asked_of : question.to ≡ server
  pub session : answer.session ≡ request.session
  pub number : answer.number ≡ request.number
  pub tells : TellsClosed id digest request.body answer.body

-- before a moment an honest node told an operation that it holds the upload's share of a number
pub record IsConfirmed (w : WorldState) (file secret : List ℕ) (p : UploadParameters) (before : ℕ)
    (pair : Pair) : Type 0 where
  pub honest : pair.0 < length w.servers
  pub share : pair.1 < p.total
  pub told : WasTold w before pair.0
      (record { index = (goal file secret p).cap.storage_index; share = pair.1 })
      (share_digest (slice_index_or (prepared_of file secret p).shares pair.1 []))

-- pairs of as many different share numbers as are needed were confirmed before a moment
pub record AreConfirmed (w : WorldState) (file secret : List ℕ) (p : UploadParameters)
    (before : ℕ) (pairs : List Pair) : Type 0 where
  pub count : length pairs ≡ p.needed
  pub different : AreDistinct (shares_of pairs)
  pub each : (pair : Pair) → Contains pairs pair → IsConfirmed w file secret p before pair

-- Where so many were confirmed before a download of its cap began, it gives up only if one of its
-- requests to one of these nodes was lost.
abbrev pub EnoughAreFound : WorldState → Type 0
EnoughAreFound w = (file secret : List ℕ) (p : UploadParameters) (d : DownloadState)
    (pairs : List Pair) → IsStarted w file secret p
    → (of : IsDownloadOf w (prepared_of file secret p).cap d)
    → AreConfirmed w file secret p of.operation.sent_before pairs → d.status ≡ NotEnoughShares
    → WasLostOf d.requests.entries pairs

-- A check of its verify cap that is done calls each pair good that was confirmed before the check
-- began, unless one of its requests to that node was lost.
abbrev pub ConfirmedAreGood : WorldState → Type 0
ConfirmedAreGood w = (file secret : List ℕ) (p : UploadParameters) (c : CheckState) (r : Report)
    (pair : Pair) → IsStarted w file secret p
    → (of : IsCheckOf w (verify_cap_of (prepared_of file secret p).cap) c) → c.status ≡ Done
    → IsReport c.cap c.requests.entries r
    → IsConfirmed w file secret p of.operation.sent_before pair
    → Contains r.verdicts (good pair) ⊎ WasLost c.requests.entries pair.0
