-- What holds of each check.
use Rattle.std.specs.Prelude.{◌≡◌, ◌<◌, ℕ, List, Some, slice_get, Contains}
use Rattle.cap_text.specs.Cap.{VerifyCapValue}
use Rattle.request_record.specs.declared.requests.Asked.{Asked}
use Rattle.request_record.specs.declared.requests.Asked.TheVariants.{Holdings, Reading}
use Rattle.request_record.specs.declared.requests.Request.{Request}
use Rattle.request_record.specs.Asking.{AsksOnce}
use Rattle.request_record.specs.Record.{IsRecord, outstanding_count}
use Rattle.share_reading.specs.Reads.{IsAsked}
use Rattle.share_reading.specs.Verdict.{brought_of}
use Rattle.checker.specs.declared.status.CheckStatus.TheVariants.{Running, Done}
use Rattle.checker.specs.Shares.{offered_pairs, settled_of}
use Rattle.checker.specs.State.{CheckState}

-- Each read of a share is one of its beginning, or one between its header and its extension block,
-- by what the same server told of that share.
abbrev pub AreOfShares : VerifyCapValue → List Request → Type 0
AreOfShares cap entries =
    (i : ℕ) (r : Request) (share offset len : ℕ) → slice_get entries i ≡ Some r
    → r.asked ≡ Reading share offset len
    → IsAsked cap (brought_of (settled_of entries r.server share)) offset len

-- A check asks its own servers which shares they hold, and a server for bytes of a share that this
-- server offered: of a number below the file's, in an answer that counted.
abbrev pub MayAsk : VerifyCapValue → List ℕ → List Request → ℕ → Asked → Type 0
MayAsk cap servers entries server Holdings = Contains servers server
MayAsk cap servers entries server (Reading share offset len) =
    Contains (offered_pairs cap.total entries) (server, share)
MayAsk cap servers entries server asked = ⊥

abbrev pub AreAsked : VerifyCapValue → List ℕ → List Request → Type 0
AreAsked cap servers entries = (i : ℕ) (r : Request) → slice_get entries i ≡ Some r
    → MayAsk cap servers entries r.server r.asked

-- While a check runs a request is outstanding, and once it is done none is. No server is asked the
-- same thing twice, nor for a byte of a share twice. Nothing else is asked than which shares the
-- check's servers hold, and bytes of those that they offered. No request is sent more than four
-- times, and none that was answered or lost is to send.
pub record IsRight (c : CheckState) : Type 0 where
  pub works : c.status ≡ Running → 0 < outstanding_count c.requests.entries
  pub idle : c.status ≡ Done → outstanding_count c.requests.entries ≡ 0
  pub once : AsksOnce c.requests.entries
  pub reads : AreOfShares c.cap c.requests.entries
  pub asked : AreAsked c.cap c.servers c.requests.entries
  pub recorded : IsRecord c.requests
