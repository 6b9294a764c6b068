-- Which bytes of shares a download reads.
use Rattle.std.specs.Prelude.{◌≡◌, ◌⊎◌, ℕ, List, Option, Some, None, slice_get, ⊤}
use Rattle.request_record.specs.declared.requests.Asked.TheVariants.{Holdings, Reading}
use Rattle.request_record.specs.declared.requests.Request.{Request}
use Rattle.download_shares.specs.Left.{IsLeft, IsOffered}
use Rattle.download_shares.specs.declared.holding.Blame.{Blame}
use Rattle.download_shares.specs.Reads.{AddsReads, IsBeside, IsInBeginning}
use Rattle.download_file.specs.Asked.{IsPlannedRead}
use Rattle.download_file.specs.State.{FileState}
use Rattle.download_core.specs.State.{Found}

-- the request reads bytes of a share that its server offered
pub record IsReadOfOffered (entries : List Request) (request : Request) : Type 0 where
  pub share : ℕ
  pub offset : ℕ
  pub len : ℕ
  pub asked : request.asked ≡ Reading share offset len
  pub offered : IsOffered entries request.server share

-- Each request asks a server which shares it holds, or reads a share that its server offered.
abbrev pub AsksOrReads : List Request → Type 0
AsksOrReads entries = (position : ℕ) (request : Request) → slice_get entries position ≡ Some request
    → (request.asked ≡ Holdings) ⊎ IsReadOfOffered entries request

-- Bytes of any share, also of one that is blamed or gone, are read only in its beginning, as far as
-- what was read of it led; and once an extension block is accepted, as a part of the plan for the
-- segments from some one on of those that are wanted.
abbrev pub MayRead : List Request → Option Found → ℕ → ℕ → ℕ → ℕ → Type 0
MayRead entries None server share offset len = IsInBeginning entries server share offset len
MayRead entries (Some f) server share offset len =
    IsInBeginning entries server share offset len ⊎ IsPlannedRead f.file offset len

-- so it is with each read that was asked for
abbrev pub ReadsNoMore : List Request → Option Found → Type 0
ReadsNoMore entries found = (position : ℕ) (request : Request) (share offset len : ℕ)
    → slice_get entries position ≡ Some request → request.asked ≡ Reading share offset len
    → MayRead entries found request.server share offset len

-- Once an extension block is accepted, each read that is asked for from then on, of any share, is a
-- part of the plan for the segments from some one on of those that are wanted.
abbrev pub PlansMore : Option Found → List Request → List Request → Type 0
PlansMore None old new = ⊤
PlansMore (Some f) old new =
    AddsReads (λ server share offset len. IsPlannedRead f.file offset len) old new

-- Bytes of a share lie beside all plans of the file, in the header or behind the share hashes, or
-- they are a part of the plan for the segments from some one on of those that are wanted.
abbrev pub IsPlannedOrBeside : FileState → ℕ → ℕ → Type 0
IsPlannedOrBeside f offset len =
    IsBeside f.handout.geometry offset len ⊎ IsPlannedRead f offset len

-- Once an extension block is accepted, nothing was read of a share that is left but what is
-- planned, beside the beginning.
abbrev pub ReadsBeside : List Request → List Blame → Option Found → Type 0
ReadsBeside entries blamed None = ⊤
ReadsBeside entries blamed (Some f) = (position : ℕ) (request : Request) (share offset len : ℕ)
    → slice_get entries position ≡ Some request → request.asked ≡ Reading share offset len
    → IsLeft entries blamed request.server share → IsPlannedOrBeside f.file offset len
