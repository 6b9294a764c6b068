-- What a download sends.
use Rattle.std.specs.Prelude.{◌≡◌, ℕ, List, Option, Some, None, slice_get}
use Rattle.wire.specs.declared.message.Message.{Message}
use Rattle.request_record.specs.Asking.{IsFrame, one_sent}
use Rattle.cap_text.specs.Cap.{verify_cap_of}
use Rattle.download_core.specs.declared.status.DownloadStatus.{DownloadStatus}
use Rattle.download_core.specs.declared.status.DownloadStatus.TheVariants.{Running, Done, Failed}
use Rattle.download_core.specs.declared.status.DownloadStatus.TheVariants.{NotEnoughShares}
use Rattle.download_core.specs.declared.status.DownloadStatus.TheVariants.{Inconsistent}
use Rattle.download_core.specs.State.{DownloadState, with_record}

-- nothing is sent after a download failed
abbrev pub first_of : DownloadStatus → List ℕ → Option ℕ
first_of Running outgoing = slice_get outgoing 0
first_of Done outgoing = slice_get outgoing 0
first_of NotEnoughShares outgoing = slice_get outgoing 0
first_of Inconsistent outgoing = slice_get outgoing 0
first_of Failed outgoing = None

-- the position of the request that is sent next
abbrev pub first_to_send : DownloadState → Option ℕ
first_to_send d = first_of d.status d.requests.outgoing

-- the first request to send is sent, if there is one
abbrev pub Takes : DownloadState → Option (ℕ × Message) → DownloadState → Type 0
Takes old None new = (first_to_send old ≡ None) × (new ≡ old)
Takes old (Some f) new = (position : ℕ) × (first_to_send old ≡ Some position)
    × IsFrame (verify_cap_of old.cap).storage_index old.requests position f.0 f.1
    × (new ≡ with_record old (one_sent old.requests))
