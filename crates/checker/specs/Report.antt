-- What a check tells once it is done.
use Rattle.std.specs.Prelude.{◌≡◌, ◌↔◌, ℕ, ◌≤◌, Bool, true, false, List, length, map, filter}
use Rattle.std.specs.Prelude.{Contains, IsTrue, count_by, nat_eq}
use Rattle.std.specs.List.{range_with_len}
use Rattle.std.specs.Set.{is_member}
use Rattle.cap_text.specs.Cap.{VerifyCapValue}
use Rattle.placement.specs.Matching.{IsLargestMatching, Pair, shares_of}
use Rattle.request_record.specs.declared.requests.Request.{Request}
use Rattle.share_reading.specs.Verdict.{IsVerdict}
use Rattle.share_reading.specs.declared.verdict.Verdict.{Verdict}
use Rattle.share_reading.specs.declared.verdict.Verdict.TheVariants.{Good, Corrupt, Lost}
use Rattle.checker.specs.Shares.{offered_pairs, settled_of}
use Rattle.checker.specs.declared.status.Report.{Report}
use Rattle.checker.specs.declared.status.ShareVerdict.{ShareVerdict}

abbrev pub pair_of : ShareVerdict → Pair
pair_of v = (v.server, v.share)

abbrev pub is_good : Verdict → Bool
is_good Good = true
is_good (Corrupt check) = false
is_good Lost = false

-- the good pairs
abbrev pub good_pairs : List ShareVerdict → List Pair
good_pairs verdicts = map pair_of (filter (λ (v : ShareVerdict). is_good v.verdict) verdicts)

-- how many numbers below the file's have a good share
abbrev pub good_numbers : ℕ → List ShareVerdict → ℕ
good_numbers total verdicts =
    count_by (is_member nat_eq (shares_of (good_pairs verdicts))) (range_with_len 0 total)

-- the verdict on a share at a server, by a record
abbrev pub IsVerdictBy : VerifyCapValue → List Request → ShareVerdict → Verdict → Type 0
IsVerdictBy cap entries v verdict =
    IsVerdict cap v.share (settled_of entries v.server v.share) verdict

-- There is a verdict on each share that was offered, once, by server as asked and then as told. It
-- is the only one by what was read of the share there.
pub record AreVerdicts (cap : VerifyCapValue) (entries : List Request)
    (verdicts : List ShareVerdict) : Type 0 where
  pub pairs : map pair_of verdicts ≡ offered_pairs cap.total entries
  pub right : (v : ShareVerdict) → Contains verdicts v → IsVerdictBy cap entries v v.verdict
  pub only : (v : ShareVerdict) (verdict : Verdict) → Contains verdicts v
      → IsVerdictBy cap entries v verdict → v.verdict ≡ verdict

pub record IsReport (cap : VerifyCapValue) (entries : List Request) (r : Report) : Type 0 where
  pub verdicts : AreVerdicts cap entries r.verdicts
  pub healthy : IsTrue r.healthy ↔ (good_numbers cap.total r.verdicts ≡ cap.total)
  pub recoverable : IsTrue r.recoverable ↔ (cap.needed ≤ good_numbers cap.total r.verdicts)
  pub happiness : (pairs : List Pair) × IsLargestMatching (good_pairs r.verdicts) pairs
      × (r.happiness ≡ length pairs)
