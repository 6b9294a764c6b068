-- What is to become of the file of a closed share.
use Rattle.std.specs.Prelude.{ℕ, Bool, List, Option, Some, None, if◌then◌else◌, nat_eq, slice_get}
use Rattle.std.specs.Borrow.{Bor}
use Rattle.std.specs.List.{list_any}
use Rattle.std.specs.Cmp.Lexicographic.{pointwise}
use Rattle.share_files.specs.declared.bytes.Verdict.{Verdict}
use Rattle.share_files.specs.declared.bytes.Verdict.TheVariants.{Whole, Damaged}
use Rattle.share_files.specs.declared.fate.Claim.{Claim}
use Rattle.share_files.specs.declared.fate.Fate.{Fate}
use Rattle.share_files.specs.declared.fate.Fate.TheVariants.{Keep, Read, SetAside, Odd}
use Rattle.share_files.specs.declared.fate.Wanted.{Wanted}

-- by the digest that the share was made with: a share that was not made has none
abbrev pub fate_by : Option (List ℕ) → List ℕ → Fate
fate_by None digest = SetAside
fate_by (Some made) digest = if pointwise nat_eq made digest then Read else SetAside

-- by the digests of all shares, where bytes are to be read too
abbrev pub fate_among : Option (Bor (List (List ℕ))) → ℕ → List ℕ → Fate
fate_among None share digest = Keep
fate_among (Some made) share digest = fate_by (slice_get made.now share) digest

-- is this the number of a share that is read meanwhile?
abbrev pub is_read : Wanted → ℕ → Bool
is_read wanted share = list_any (λ number. nat_eq number share) wanted.reading.now

-- By its length. The file of a share that is read meanwhile stays.
abbrev pub fate_by_length : ℕ → Claim → Wanted → Fate
fate_by_length length claim wanted =
    if is_read wanted claim.share then Keep else
    (if nat_eq length wanted.length then fate_among wanted.digests claim.share claim.digest
    else SetAside)

-- what is no regular file has no length, and where nothing is wanted the bytes tell
abbrev pub fate_at : Option ℕ → Option Wanted → Claim → Fate
fate_at None wanted claim = Odd
fate_at (Some length) None claim = Read
fate_at (Some length) (Some wanted) claim = fate_by_length length claim wanted

abbrev pub fate_of : Claim → Option Wanted → Fate
fate_of claim wanted = fate_at claim.length wanted claim

-- once its bytes were read
abbrev pub fate_read : Verdict → Fate
fate_read Whole = Keep
fate_read Damaged = SetAside
