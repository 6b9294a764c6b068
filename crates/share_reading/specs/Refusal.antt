-- Why a share is given up at its beginning: the first fault.
use Rattle.std.specs.Prelude.{◌≡◌, ◌≢◌, ◌⊎◌, ℕ, ◌<◌, List, ◌++◌, length}
use Rattle.ueb.specs.Limits.{max_length}
use Rattle.ueb.specs.Shape.{Contents}
use Rattle.cap_text.specs.Cap.{VerifyCapValue}
use Rattle.share_layout.specs.declared.layout.Layout.TheVariants.{One}
use Rattle.share_layout.specs.Offsets.{layout_in, number_at, offsets_in}
use Rattle.share_layout.specs.Reading.{HasHeader, IsHeaderFault}
use Rattle.share_verify.specs.CapBlock.{IsUebFor, geometry_by}
use Rattle.share_verify.specs.Checks.{check_number}
use Rattle.share_verify.specs.Verify.{IsUebFault}
use Rattle.share_verify.specs.declared.check.Check.{Check}
use Rattle.share_verify.specs.declared.check.Check.TheVariants as checks
use Rattle.share_reading.specs.Header.{IsReachable, TellsOffsets}
use Rattle.share_reading.specs.Opening.{next_length, text_of}
use Rattle.share_reading.specs.declared.error.OpeningError.{OpeningError}
use Rattle.share_reading.specs.declared.error.OpeningError.TheVariants as errors
use Rattle.share_reading.specs.declared.opening.Opening.{Opening}
use Rattle.share_reading.specs.declared.opening.Opening.TheVariants.{Start, Second, Header, Block}

-- the check that the share fails
abbrev pub check_of : OpeningError → Check
check_of errors.OtherLength = checks.Layout
check_of (errors.Header error) = checks.Layout
check_of errors.TooFar = checks.Layout
check_of errors.TooLong = checks.Layout
check_of errors.NoBlock = checks.Ueb
check_of (errors.Ueb fault) = checks.Ueb
check_of errors.OtherHeader = checks.Layout

-- the number of the refusal
abbrev pub refusal_number : OpeningError → ℕ
refusal_number error = check_number (check_of error)

-- why a header that is there whole is refused: it tells no offsets, or the extension block's is too
-- high
abbrev pub IsHeaderRefusal : List ℕ → OpeningError → Type 0
IsHeaderRefusal header (errors.Header error) = IsHeaderFault header error
IsHeaderRefusal header errors.TooFar = TellsOffsets header × ¬ IsReachable (offsets_in header)
IsHeaderRefusal header error = ⊥

-- why this length of an extension block is refused
abbrev pub IsLengthRefusal : ℕ → OpeningError → Type 0
IsLengthRefusal told errors.TooLong = max_length < told
IsLengthRefusal told errors.NoBlock = told ≡ 0
IsLengthRefusal told error = ⊥

-- why these bytes are refused as the extension block of the cap's file, behind this header: they
-- are not it, or it asks for another header
abbrev pub IsBlockRefusal : VerifyCapValue → List ℕ → List ℕ → OpeningError → Type 0
IsBlockRefusal cap header bytes (errors.Ueb fault) = IsUebFault cap bytes fault
IsBlockRefusal cap header bytes errors.OtherHeader =
    (u : Contents) × IsUebFor cap bytes u × ¬ HasHeader (geometry_by u) header
IsBlockRefusal cap header bytes error = ⊥

-- why the bytes that the next read brought are refused, where they are as many as it asked for
abbrev pub IsStageRefusal : VerifyCapValue → Opening → List ℕ → OpeningError → Type 0
IsStageRefusal cap Start bytes error = (layout_in bytes ≡ One) × IsHeaderRefusal bytes error
IsStageRefusal cap (Second start) bytes error = IsHeaderRefusal (start.bytes ++ bytes) error
IsStageRefusal cap (Header h) bytes error =
    IsLengthRefusal (number_at h.offsets.layout bytes 0) error
IsStageRefusal cap (Block b) bytes error = IsBlockRefusal cap (text_of b.header) bytes error

-- why the bytes that the next read brought are refused: the first fault
abbrev pub IsRefused : VerifyCapValue → Opening → List ℕ → OpeningError → Type 0
IsRefused cap o bytes error =
    ((length bytes ≢ next_length o) × (error ≡ errors.OtherLength))
    ⊎ ((length bytes ≡ next_length o) × IsStageRefusal cap o bytes error)
