-- Why shares are blamed.
use Rattle.std.specs.Prelude.{◌≡◌, ◌⊎◌, ℕ, ◌<◌, ◌≤◌, List, Some, length, slice_get}
use Rattle.cap_text.specs.Cap.{VerifyCapValue}
use Rattle.wire.specs.declared.message.Body.TheVariants.{Data}
use Rattle.request_record.specs.declared.requests.Asked.TheVariants.{Reading}
use Rattle.request_record.specs.declared.requests.Outcome.TheVariants.{Answered}
use Rattle.request_record.specs.declared.requests.Request.{Request}
use Rattle.share_layout.specs.Geometry.{Geometry}
use Rattle.share_verify.specs.declared.check.Check.{Check}
use Rattle.share_verify.specs.declared.check.Check.TheVariants as checks
use Rattle.share_reading.specs.Opening.{Advances, Agrees, next_length, next_offset}
use Rattle.share_reading.specs.OpeningReads.{IsLedToBy}
use Rattle.share_reading.specs.Refusal.{IsRefused, check_of}
use Rattle.share_reading.specs.declared.block.Opened.{Opened}
use Rattle.share_reading.specs.declared.error.OpeningError.{OpeningError}
use Rattle.share_reading.specs.declared.opening.Opening.{Opening}
use Rattle.share_reading.specs.declared.opening.Progress.TheVariants.{Next, Done}
use Rattle.download_shares.specs.declared.holding.Blame.{Blame}
use Rattle.download_shares.specs.Reads.{brought_of}
use Rattle.download_shares.specs.BeginningState.{BeginningsState}

-- each blame that was added has this cause
abbrev pub AddsBlames : (Blame → Type 0) → List Blame → List Blame → Type 0
AddsBlames cause old new =
    (i : ℕ) (b : Blame) → slice_get new i ≡ Some b → length old ≤ i → cause b

-- the number of the share that is blamed counts
abbrev pub IsNumbered : BeginningsState → Blame → Type 0
IsNumbered s b = b.share < length s.holdings.table.numbers

-- The next bytes of an opening are refused, or the header that they tell is another than that of a
-- file with this geometry.
abbrev pub FailsAs : VerifyCapValue → Geometry → Opening → List ℕ → Check → Type 0
FailsAs cap g opening bytes check =
    ((error : OpeningError) × IsRefused cap opening bytes error × (check ≡ check_of error))
    ⊎ ((next : Opening) × Advances cap opening bytes (Next next) × (¬ Agrees g next)
    × (check ≡ checks.Layout))

-- The next bytes of an opening lead on, and to no other header than that of a file with this
-- geometry.
abbrev pub LeadsOn : VerifyCapValue → Geometry → Opening → List ℕ → Type 0
LeadsOn cap g opening bytes =
    ((next : Opening) × Advances cap opening bytes (Next next) × Agrees g next)
    ⊎ ((opened : Opened) × Advances cap opening bytes (Done opened))

-- What the share's server answered to a read of its beginning, which follows what the server
-- answered before, is refused by the cap.
pub record IsOpeningFault (cap : VerifyCapValue) (entries : List Request) (b : Blame)
    : Type 0 where
  pub opening : Opening
  pub led : IsLedToBy (brought_of entries b.server b.share) opening
  pub position : ℕ
  pub request : Request
  pub there : slice_get entries position ≡ Some request
  pub of_server : request.server ≡ b.server
  pub asked : request.asked ≡ Reading b.share (next_offset opening) (next_length opening)
  pub bytes : List ℕ
  pub answer : request.outcome ≡ Answered (Data bytes)
  pub error : OpeningError
  pub refused : IsRefused cap opening bytes error
  pub check : b.check ≡ check_of error

-- what the share's server answered led to a header that is another than that of a file with this
-- geometry
pub record IsOtherHeader (g : Geometry) (entries : List Request) (b : Blame) : Type 0 where
  pub opening : Opening
  pub led : IsLedToBy (brought_of entries b.server b.share) opening
  pub other : ¬ Agrees g opening
  pub check : b.check ≡ checks.Layout

-- the share fails the check in its beginning
abbrev pub IsBeginningFault : VerifyCapValue → Geometry → List Request → Blame → Type 0
IsBeginningFault cap g entries b = IsOpeningFault cap entries b ⊎ IsOtherHeader g entries b
