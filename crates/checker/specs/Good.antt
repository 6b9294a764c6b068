-- The good shares that a check hands out.
use Rattle.std.specs.Prelude.{◌≡◌, ◌⊎◌, ℕ, ◌<◌, ◌≤◌, List, [], length, slice_index}
use Rattle.std.specs.Prelude.{slice_index_or, All, Contains}
use Rattle.cap_text.specs.Cap.{VerifyCapValue}
use Rattle.request_record.specs.declared.requests.Request.{Request}
use Rattle.share_reading.specs.Verdict.{IsGood}
use Rattle.checker.specs.Shares.{offered_pairs, settled_of}

-- a server offered this share, and it is good: what the reads of it there brought, joined by
-- offset, is these bytes
abbrev pub IsFoundAt : VerifyCapValue → List Request → ℕ → List ℕ → ℕ → Type 0
IsFoundAt cap entries num bytes server = Contains (offered_pairs cap.total entries) (server, num)
    × (good : IsGood cap num (settled_of entries server num)) × (good.bytes ≡ bytes)

abbrev pub IsFound : VerifyCapValue → List Request → ℕ → List ℕ → Type 0
IsFound cap entries num bytes = (server : ℕ) × IsFoundAt cap entries num bytes server

-- there is a good share of this number
abbrev pub HasGood : VerifyCapValue → List Request → ℕ → Type 0
HasGood cap entries num = (bytes : List ℕ) × IsFound cap entries num bytes

abbrev pub AreRising : List ℕ → Type 0
AreRising numbers = (low high : ℕ) → low < high → high < length numbers
    → slice_index numbers low < slice_index numbers high

-- Of the lowest numbers that have a good share, as many as are needed or as there are, with the
-- bytes of one such share each. Another number has a good share only where there are as many as are
-- needed, and then it is above them.
pub record AreGoodShares (cap : VerifyCapValue) (entries : List Request) (numbers : List ℕ)
    (strings : List (List ℕ)) : Type 0 where
  pub counted : length strings ≡ length numbers
  pub rising : AreRising numbers
  pub few : length numbers ≤ cap.needed
  pub found : (i : ℕ) → i < length numbers
      → IsFound cap entries (slice_index numbers i) (slice_index_or strings i [])
  pub others : (num : ℕ) → HasGood cap entries num
      → Contains numbers num
      ⊎ ((length numbers ≡ cap.needed) × All (λ n. n < num) numbers)
