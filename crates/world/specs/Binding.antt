-- Beside the headline: what binds downloads and checks of a cap to the file whose upload was
-- started with it.
use Rattle.std.specs.Prelude.{◌≡◌, ◌≢◌, ℕ, List, [], length, Some}
use Rattle.std.specs.Prelude.{slice_get, slice_index_or}
use Rattle.aes_ctr.specs.CounterMode.{xored}
use Rattle.tagged_hash.specs.ConvergentKey.{convergent_key_of}
use Rattle.cap_text.specs.Cap.{verify_cap_of}
use Rattle.share_layout.specs.Geometry.{geometry_of}
use Rattle.share_layout.specs.Pieces.{segments_of}
use Rattle.file_encoding.specs.Encoding.{blocks_of}
use Rattle.file_encoding.specs.Params.{UploadParameters}
use Rattle.file_upload.specs.Prepared.{prepared_of}
use Rattle.download_file.specs.Answers.{HasRightBlock, block_of}
use Rattle.download_file.specs.State.{IsReader, ReaderState}
use Rattle.download_core.specs.State.{DownloadState, Found}
use Rattle.download_core.specs.declared.status.DownloadStatus.TheVariants.{Inconsistent}
use Rattle.answer_laws.specs.Downloads.Answers.{AnsweredOther}
use Rattle.download_shares.specs.declared.holding.Blame.{Blame}
use Rattle.share_reading.specs.Verdict.{IsGood}
use Rattle.wire.specs.declared.message.Body.TheVariants.{Data}
use Rattle.checker.specs.Shares.{settled_of}
use Rattle.checker.specs.State.{CheckState}
use Rattle.world.specs.Consistent.{CameFrom}
use Rattle.world.specs.Enough.{ConfirmedAreGood, EnoughAreFound}
use Rattle.world.specs.Headline.{HasNoClash, IsGiven, IsUploadOf, Keeps, goal}
use Rattle.upload_core.specs.Sending as upload_sends
use Rattle.world_operations.specs.declared.operation.Operation.{Operation}
use Rattle.world_operations.specs.declared.upload_pieces.UploadPieces.{UploadPieces}
use Rattle.world.specs.Started.{HasNoClashInTests, IsCheckOf, IsDownloadOf, IsStarted}
use Rattle.world.specs.State.{WorldState}

-- ---- the claims

-- No download of its cap finds the file inconsistent, whatever servers answer.
abbrev pub NeverInconsistent : WorldState → Type 0
NeverInconsistent w = (file secret : List ℕ) (p : UploadParameters) (d : DownloadState)
    → IsStarted w file secret p → IsDownloadOf w (prepared_of file secret p).cap d
    → d.status ≢ Inconsistent

-- the block of a segment of the file that a share of its encoding has
abbrev pub block_in : List ℕ → List ℕ → UploadParameters → ℕ → ℕ → List ℕ
block_in file secret p share segment =
    let g = geometry_of (length file) p.needed p.total p.max_segment in
    let key = convergent_key_of p.needed p.total g.segment_size secret file in
    slice_index_or (blocks_of p.needed share (segments_of g (xored key file))) segment []

-- Each block that a download of its cap read and found right is the upload's.
abbrev pub BlocksAreOwn : WorldState → Type 0
BlocksAreOwn w = (file secret : List ℕ) (p : UploadParameters) (d : DownloadState) (f : Found)
    (position segment : ℕ) (r : ReaderState)
    → IsStarted w file secret p → IsDownloadOf w (prepared_of file secret p).cap d
    → d.found ≡ Some f → IsReader f.file position r → HasRightBlock d.requests.entries r segment
    → block_of d.requests.entries r.supply segment ≡ block_in file secret p r.share segment

-- Each share that a check of its verify cap read to its end and that is good is the upload's, byte
-- for byte: what its server answered, joined by offset.
abbrev pub GoodSharesAreOwn : WorldState → Type 0
GoodSharesAreOwn w = (file secret : List ℕ) (p : UploadParameters) (c : CheckState)
    (server share : ℕ) → IsStarted w file secret p
    → IsCheckOf w (verify_cap_of (prepared_of file secret p).cap) c
    → (good : IsGood c.cap share (settled_of c.requests.entries server share))
    → good.bytes ≡ slice_index_or (prepared_of file secret p).shares share []

-- In an answer that counted, and that it sent to the node that downloads, the server told other
-- bytes than the share has at the offset that it was asked for.
pub record ToldOther (w : WorldState) (number node : ℕ) (d : DownloadState) (server num : ℕ)
    (share : List ℕ) : Type 0 where
  pub answered : AnsweredOther d.requests.entries server num share
  pub sent : CameFrom w.sent number node answered.position server answered.request.asked
      (Data answered.bytes)

-- Each server that a download of its cap blames for a share told other bytes than the upload's
-- share of that number has. So nobody is blamed for a share that it tells as the encoding has it.
abbrev pub NoFalseBlame : WorldState → Type 0
NoFalseBlame w = (file secret : List ℕ) (p : UploadParameters) (d : DownloadState) (i : ℕ)
    (b : Blame) → IsStarted w file secret p
    → (of : IsDownloadOf w (prepared_of file secret p).cap d) → slice_get d.blamed i ≡ Some b
    → ToldOther w of.number of.operation.node d b.server b.share
    (slice_index_or (prepared_of file secret p).shares b.share [])

-- Where the upload of a file has a machine, whatever became of it, each byte that was handed out
-- for its cap is its file's.
abbrev pub StartedAreGiven : WorldState → Type 0
StartedAreGiven w = (file secret : List ℕ) (p : UploadParameters) (number : ℕ)
    (operation : Operation) (upload : upload_sends.Uploading UploadPieces) (position byte : ℕ)
    → IsUploadOf w number file secret p operation upload
    → IsGiven w (prepared_of file secret p).cap position byte → slice_get file position ≡ Some byte

-- No honest server that keeps the upload's share of a number is blamed for it.
abbrev pub KeepersAreNotBlamed : WorldState → Type 0
KeepersAreNotBlamed w = (file secret : List ℕ) (p : UploadParameters) (d : DownloadState) (i : ℕ)
    (b : Blame) → IsStarted w file secret p → IsDownloadOf w (prepared_of file secret p).cap d
    → slice_get d.blamed i ≡ Some b
    → Keeps w b.server (goal file secret p).cap.storage_index b.share
    (slice_index_or (prepared_of file secret p).shares b.share []) → ⊥

-- What binds downloads and checks, of one world. It holds of every world.
pub record IsBound (w : WorldState) : Type 0 where
  pub never_inconsistent : HasNoClashInTests w → NeverInconsistent w
  pub blocks_are_own : HasNoClashInTests w → BlocksAreOwn w
  pub good_shares_are_own : HasNoClashInTests w → GoodSharesAreOwn w
  pub no_false_blame : HasNoClashInTests w → NoFalseBlame w
  pub started_are_given : HasNoClash w → StartedAreGiven w
  pub keepers_are_not_blamed : HasNoClashInTests w → KeepersAreNotBlamed w
  pub enough_are_found : HasNoClashInTests w → EnoughAreFound w
  pub confirmed_are_good : HasNoClashInTests w → ConfirmedAreGood w
