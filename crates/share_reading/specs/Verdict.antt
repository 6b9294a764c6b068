-- The verdict on a share, by the reads of it that were answered or lost.
use Rattle.std.specs.Prelude.{◌≡◌, ◌⊎◌, ℕ, List, [], ◌∷◌, ◌++◌, length, Contains, Option, Some}
use Rattle.std.specs.Prelude.{None}
use Rattle.std.specs.List.{flat_map}
use Rattle.cap_text.specs.Cap.{VerifyCapValue}
use Rattle.share_verify.specs.Checks.{check_of}
use Rattle.share_verify.specs.Verify.{IsFirstFault, IsSoundShare}
use Rattle.share_verify.specs.declared.check.Check.{Check}
use Rattle.share_verify.specs.declared.fault.ShareFault.{ShareFault}
use Rattle.share_reading.specs.OpeningReads.{Brought}
use Rattle.share_reading.specs.Reading.{Advances, IsStop, next_length, next_offset}
use Rattle.share_reading.specs.Reads.{IsReadBy}
use Rattle.share_reading.specs.Whole.{IsWhole}
use Rattle.share_reading.specs.declared.reading.Progress.TheVariants.{Whole}
use Rattle.share_reading.specs.declared.reading.ShareReading.{ShareReading}
use Rattle.share_reading.specs.declared.verdict.Verdict.{Verdict}
use Rattle.share_reading.specs.declared.verdict.Verdict.TheVariants.{Good, Corrupt, Lost}

-- A read that waits no more: where it begins, how many bytes it asked for, and the bytes that came.
-- `None`: it was lost, or the server has no such share.
pub record Settled : Type 0 where
  pub offset : ℕ
  pub len : ℕ
  pub answer : Option (List ℕ)

-- what reads brought
abbrev pub brought_at : ℕ → Option (List ℕ) → List Brought
brought_at offset None = []
brought_at offset (Some bytes) = (offset, bytes) ∷ []

abbrev pub brought_by : Settled → List Brought
brought_by read = brought_at read.offset read.answer

abbrev pub brought_of : List Settled → List Brought
brought_of reads = flat_map brought_by reads

-- each read brought bytes
abbrev pub AreAnswered : List Settled → Type 0
AreAnswered reads =
    (read : Settled) → Contains reads read → (bytes : List ℕ) × (read.answer ≡ Some bytes)

-- each read brought as many bytes as it asked for
abbrev pub AreFull : List Settled → Type 0
AreFull reads = (read : Settled) → Contains reads read
    → (bytes : List ℕ) × (read.answer ≡ Some bytes) × (length bytes ≡ read.len)

-- what the reads brought, joined by offset, is the share of this number
pub record IsGood (cap : VerifyCapValue) (num : ℕ) (reads : List Settled) : Type 0 where
  pub bytes : List ℕ
  pub full : AreFull reads
  pub whole : IsWhole (brought_of reads) bytes
  pub sound : IsSoundShare cap num bytes

-- what the reads brought led to a reading, and one of them brought these bytes, the next that it
-- asks for
pub record HasLed (cap : VerifyCapValue) (reads : List Settled) (reading : ShareReading)
    (bytes : List ℕ) : Type 0 where
  pub front : List Brought
  pub back : List Brought
  pub led : IsReadBy cap front back reading
  pub among : (read : Brought) → Contains (front ++ back) read
      → Contains (brought_of reads) read
  pub last : Contains reads (record {
    offset = next_offset reading;
    len = next_length reading;
    answer = Some bytes;
  })

-- what the reads brought led to a reading that stopped by this check
pub record IsStopped (cap : VerifyCapValue) (reads : List Settled) (check : Check) : Type 0 where
  pub answered : AreAnswered reads
  pub reading : ShareReading
  pub bytes : List ℕ
  pub led : HasLed cap reads reading bytes
  pub stop : IsStop cap reading bytes check

-- The share was read to its end: what the reads brought led to a reading that ended. Joined by
-- offset, it fails this check first.
pub record FailsFirst (cap : VerifyCapValue) (num : ℕ) (reads : List Settled) (check : Check)
    : Type 0 where
  pub reading : ShareReading
  pub last_bytes : List ℕ
  pub led : HasLed cap reads reading last_bytes
  pub ends : Advances cap reading last_bytes Whole
  pub bytes : List ℕ
  pub full : AreFull reads
  pub whole : IsWhole (brought_of reads) bytes
  pub fault : ShareFault
  pub first : IsFirstFault cap num bytes fault
  pub check_is : check ≡ check_of fault

-- a read was lost, or answered that there is no such share
abbrev pub IsLost : List Settled → Type 0
IsLost reads = (read : Settled) × Contains reads read × (read.answer ≡ None)

-- the verdict on share `num` at a server, by the reads of it there
abbrev pub IsVerdict : VerifyCapValue → ℕ → List Settled → Verdict → Type 0
IsVerdict cap num reads Good = IsGood cap num reads
IsVerdict cap num reads (Corrupt check) = IsStopped cap reads check ⊎ FailsFirst cap num reads check
IsVerdict cap num reads Lost = IsLost reads

-- the verdict on these bytes as share `num`
abbrev pub IsJudged : VerifyCapValue → ℕ → List ℕ → Verdict → Type 0
IsJudged cap num share Good = IsSoundShare cap num share
IsJudged cap num share (Corrupt check) =
    (fault : ShareFault) × IsFirstFault cap num share fault × (check ≡ check_of fault)
IsJudged cap num share Lost = ⊥

-- no two of the reads begin at one offset
abbrev pub AreApart : List Settled → Type 0
AreApart reads = (one other : Settled) → Contains reads one → Contains reads other
    → one.offset ≡ other.offset → one ≡ other

-- A law: a share has at most one kind of verdict, and one that was read to its end fails one check
-- first. By reads of which no two begin at one offset it has one verdict: so one whose reading
-- stopped fails the check of the first fault of its beginning, and no other.
pub record AreExclusive : Type 0 where
  pub good : (cap : VerifyCapValue) (num : ℕ) (reads : List Settled) (v : Verdict)
      → IsVerdict cap num reads v → IsVerdict cap num reads Good → v ≡ Good
  pub lost : (cap : VerifyCapValue) (num : ℕ) (reads : List Settled) (v : Verdict)
      → IsVerdict cap num reads v → IsVerdict cap num reads Lost → v ≡ Lost
  pub ended : (cap : VerifyCapValue) (num : ℕ) (reads : List Settled) (one other : Check)
      → FailsFirst cap num reads one → FailsFirst cap num reads other → one ≡ other
  pub one : (cap : VerifyCapValue) (num : ℕ) (reads : List Settled) (v w : Verdict)
      → AreApart reads → IsVerdict cap num reads v → IsVerdict cap num reads w → v ≡ w
