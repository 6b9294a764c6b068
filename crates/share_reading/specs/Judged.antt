-- How a share is judged as its bytes are read.
use Rattle.std.specs.Prelude.{◌≡◌, ℕ, ◌+◌, List, [], ◌++◌, length, Option, Some, None}
use Rattle.cap_text.specs.Cap.{VerifyCapValue}
use Rattle.ueb.specs.Shape.{Contents}
use Rattle.share_layout.specs.Layout.{header, layout_of, offsets_of, spelled}
use Rattle.share_verify.specs.CapBlock.{IsUebFor, geometry_by}
use Rattle.share_verify.specs.Judging.{HasTaken, between_size, share_with}
use Rattle.share_verify.specs.declared.judging.Judging.{Judging}
use Rattle.share_reading.specs.OpeningReads.{Brought}
use Rattle.share_reading.specs.declared.opening.Opening.TheVariants.{Start, Second, Header, Block}
use Rattle.share_reading.specs.Reading.{Advances, IsStop}
use Rattle.share_reading.specs.Reads.{IsReadBy, more_back, more_front}
use Rattle.share_reading.specs.Verdict.{IsJudged}
use Rattle.share_reading.specs.Whole.{joined}
use Rattle.share_reading.specs.declared.judged.Found.{Found}
use Rattle.share_reading.specs.declared.judged.Found.TheVariants as found
use Rattle.share_reading.specs.declared.judged.Judged.{Judged}
use Rattle.share_reading.specs.declared.reading.Progress.TheVariants.{Next, Whole}
use Rattle.share_reading.specs.declared.reading.ShareReading.{ShareReading}
use Rattle.share_reading.specs.declared.reading.ShareReading.TheVariants.{Beginning, Remaining}
use Rattle.share_reading.specs.declared.rest.Rest.{Rest}
use Rattle.share_reading.specs.declared.verdict.Verdict.{Verdict}

-- The reads brought the header of the cap's file and then what the judging took, and behind the
-- rest the extension block, with its length before it.
pub record HasRest (cap : VerifyCapValue) (front back : List Brought) (r : Rest) (j : Judging)
    : Type 0 where
  pub u : Contents
  pub block : List ℕ
  pub ueb : IsUebFor cap block u
  pub offsets : r.offsets ≡ offsets_of (geometry_by u)
  pub taken : List ℕ
  pub has : HasTaken j u taken
  pub text : joined front ≡ header (geometry_by u) ++ taken
  pub end : joined back ≡ spelled (layout_of (geometry_by u)) (length block) ++ block

-- what is judged of a share that is read so far by these reads: of its beginning nothing
abbrev pub HasJudged
    : VerifyCapValue → List Brought → List Brought → ShareReading → Option Judging → Type 0
HasJudged cap front back (Beginning Start) j = j ≡ None
HasJudged cap front back (Beginning (Second s)) j = j ≡ None
HasJudged cap front back (Beginning (Header h)) j = j ≡ None
HasJudged cap front back (Beginning (Block b)) j =
    (j ≡ None) × (joined back ≡ spelled b.header.offsets.layout b.block_length)
HasJudged cap front back (Remaining r) None = ⊥
HasJudged cap front back (Remaining r) (Some j) = HasRest cap front back r j

abbrev pub IsJudgedBy
    : VerifyCapValue → List Brought → List Brought → ShareReading → Judged → Type 0
IsJudgedBy cap front back reading j = HasJudged cap front back reading j.judging

-- reads led to the reading, and what they brought is judged so far
pub record IsUnderway (cap : VerifyCapValue) (reading : ShareReading) (j : Judged) : Type 0 where
  pub front : List Brought
  pub back : List Brought
  pub led : IsReadBy cap front back reading
  pub judged : IsJudgedBy cap front back reading j

-- what comes of the bytes that the next read brought
abbrev pub Comes : VerifyCapValue → ShareReading → List ℕ → Found → Type 0
Comes cap reading bytes (found.Next next) = Advances cap reading bytes (Next next)
Comes cap reading bytes (found.Whole verdict) = Advances cap reading bytes Whole
Comes cap reading bytes (found.Stopped check) = IsStop cap reading bytes check

-- With the bytes that the next read brought, more is judged; at the end the verdict is the one on
-- the bytes of all reads, joined.
abbrev pub IsJudgedOn : VerifyCapValue → ℕ → List Brought → List Brought → ShareReading → List ℕ
    → Found → Judged → Type 0
IsJudgedOn cap num front back reading bytes (found.Next next) new =
    IsJudgedBy cap (more_front reading bytes front) (more_back reading bytes back) next new
IsJudgedOn cap num front back reading bytes (found.Whole verdict) new =
    IsJudged cap num
    (joined (more_front reading bytes front) ++ joined (more_back reading bytes back)) verdict
IsJudgedOn cap num front back reading bytes (found.Stopped check) new = Unit {0}

-- ---- words of private clauses

-- the judging begins with the rest, and takes its bytes
abbrev pub GoesOn : Option Judging → ShareReading → List ℕ → Option Judging → Type 0
GoesOn old (Beginning opening) bytes new = new ≡ old
GoesOn None (Remaining r) bytes new = (j : Judging) × (new ≡ Some j) × HasTaken j r.ueb []
GoesOn (Some old) (Remaining r) bytes new =
    (j : Judging) × (new ≡ Some j) × ((u : Contents) (taken : List ℕ) → HasTaken old u taken
    → HasTaken j u (taken ++ bytes))

-- with these bytes the judging has all bytes between the header and the extension block
pub record IsAtEnd (j : Judged) (bytes : List ℕ) : Type 0 where
  pub judging : Judging
  pub some : j.judging ≡ Some judging
  pub u : Contents
  pub taken : List ℕ
  pub has : HasTaken judging u taken
  pub whole : length (taken ++ bytes) ≡ between_size (geometry_by u)

-- the verdict is the one on the share with all bytes that were taken
abbrev pub IsVerdictOn : VerifyCapValue → ℕ → Judged → List ℕ → Verdict → Type 0
IsVerdictOn cap num j bytes verdict = (judging : Judging) (u : Contents) (taken block : List ℕ)
    → j.judging ≡ Some judging → HasTaken judging u taken → IsUebFor cap block u
    → IsJudged cap num (share_with u (taken ++ bytes) block) verdict
