-- Why a download blames shares.
use Rattle.std.specs.Prelude.{◌≡◌, ◌⊎◌, ℕ, ◌<◌, List, Option, Some, None, slice_get}
use Rattle.cap_text.specs.Cap.{VerifyCapValue}
use Rattle.request_record.specs.declared.requests.Request.{Request}
use Rattle.download_shares.specs.declared.holding.Blame.{Blame}
use Rattle.download_shares.specs.Causes.{IsOpeningFault}
use Rattle.download_core.specs.ReadingCauses.{HasCause, IsBlockFault}
use Rattle.download_core.specs.State.{Found}

-- Before an extension block is accepted, the cap alone refuses what was answered to a read of the
-- share's beginning. Then its beginning, a part or a block of it may also fail a check for the file
-- that was found. The number of each share that is blamed is one that the cap's file has.
abbrev pub IsCause : VerifyCapValue → List Request → Option Found → Blame → Type 0
IsCause cap entries None b = IsOpeningFault cap entries b × (b.share < cap.total)
IsCause cap entries (Some f) b = HasCause cap entries f.file b ⊎ IsBlockFault entries f.file b

-- each share that is blamed failed its check by what its server answered
abbrev pub AreCaused : VerifyCapValue → List Request → Option Found → List Blame → Type 0
AreCaused cap entries found blamed =
    (i : ℕ) (b : Blame) → slice_get blamed i ≡ Some b → IsCause cap entries found b
