-- How a share is read whole: which bytes are read, and what comes of them. Offsets and lengths are
-- in bytes.
use Rattle.std.specs.Prelude.{◌≡◌, ◌≢◌, ℕ, ◌+◌, ◌-◌, ◌≤◌, List, length, min, Bool}
use Rattle.std.specs.Prelude.{true, false}
use Rattle.wire.specs.Limits.{most_data}
use Rattle.cap_text.specs.Cap.{VerifyCapValue}
use Rattle.share_layout.specs.Layout.{header_size}
use Rattle.share_verify.specs.declared.check.Check.{Check}
use Rattle.share_verify.specs.declared.check.Check.TheVariants.{Layout}
use Rattle.share_reading.specs.Opening as opening
use Rattle.share_reading.specs.Refusal.{IsRefused, check_of}
use Rattle.share_reading.specs.declared.block.Opened.{Opened}
use Rattle.share_reading.specs.declared.error.OpeningError.{OpeningError}
use Rattle.share_reading.specs.declared.opening.Opening.TheVariants.{Header, Block}
use Rattle.share_reading.specs.declared.opening.Progress.TheVariants as progress
use Rattle.share_reading.specs.declared.reading.ShareReading.{ShareReading}
use Rattle.share_reading.specs.declared.reading.ShareReading.TheVariants.{Beginning, Remaining}
use Rattle.share_reading.specs.declared.reading.Progress.{Progress}
use Rattle.share_reading.specs.declared.reading.Progress.TheVariants.{Next, Whole}

-- where the next read begins
abbrev pub next_offset : ShareReading → ℕ
next_offset (Beginning o) = opening.next_offset o
next_offset (Remaining r) = r.next

-- and how many bytes it asks for
abbrev pub next_length : ShareReading → ℕ
next_length (Beginning o) = opening.next_length o
next_length (Remaining r) = min (r.offsets.extension_block - r.next) most_data

-- are the next bytes the extension block's length or the extension block? They stand behind the
-- rest.
abbrev pub is_behind : ShareReading → Bool
is_behind (Beginning (Header h)) = true
is_behind (Beginning (Block b)) = true
is_behind reading = false

-- the rest of a share that is opened so begins behind its header
abbrev pub BeginsRest : Opened → Progress → Type 0
BeginsRest o (Next (Remaining r)) =
    (r.ueb ≡ o.ueb) × (r.offsets ≡ o.offsets) × (r.next ≡ header_size o.offsets.layout)
BeginsRest o (Next (Beginning next)) = ⊥
BeginsRest o Whole = o.offsets.extension_block ≤ header_size o.offsets.layout

-- what comes of the bytes that the next read brought, which are as many as it asked for
abbrev pub Advances : VerifyCapValue → ShareReading → List ℕ → Progress → Type 0
Advances cap (Beginning o) bytes (Next (Beginning next)) =
    opening.Advances cap o bytes (progress.Next next)
Advances cap (Beginning o) bytes (Next (Remaining r)) =
    (opened : Opened) × opening.Advances cap o bytes (progress.Done opened)
    × BeginsRest opened (Next (Remaining r))
Advances cap (Beginning o) bytes Whole =
    (opened : Opened) × opening.Advances cap o bytes (progress.Done opened)
    × BeginsRest opened Whole
Advances cap (Remaining r) bytes (Next (Beginning next)) = ⊥
Advances cap (Remaining r) bytes (Next (Remaining s)) =
    (length bytes ≡ next_length (Remaining r))
    × (s.ueb ≡ r.ueb) × (s.offsets ≡ r.offsets) × (s.next ≡ r.next + next_length (Remaining r))
Advances cap (Remaining r) bytes Whole = (length bytes ≡ next_length (Remaining r))
    × (r.next + next_length (Remaining r) ≡ r.offsets.extension_block)

-- why the share is not read on: the first fault of its beginning, or a wrong length
abbrev pub IsStop : VerifyCapValue → ShareReading → List ℕ → Check → Type 0
IsStop cap (Beginning o) bytes check =
    (error : OpeningError) × IsRefused cap o bytes error × (check ≡ check_of error)
IsStop cap (Remaining r) bytes check = (length bytes ≢ next_length (Remaining r)) × (check ≡ Layout)
