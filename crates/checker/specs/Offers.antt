-- The shares that servers offered.
use Rattle.std.specs.Prelude.{◌≡◌, ℕ, Bool, List, [], ◌∷◌, ◌++◌, if◌then◌else◌}
use Rattle.cap_text.specs.Cap.{VerifyCapValue}
use Rattle.placement.specs.Matching.{Pair}
use Rattle.share_reading.specs.OpeningReads.{Brought}
use Rattle.share_reading.specs.declared.opening.Opening.TheVariants.{Start}
use Rattle.share_reading.specs.Judged.{Comes, IsJudgedBy, IsJudgedOn}
use Rattle.share_reading.specs.Reading.{is_behind}
use Rattle.share_reading.specs.Reads.{IsReadBy}
use Rattle.share_reading.specs.declared.judged.Found.{Found}
use Rattle.share_reading.specs.declared.judged.Judged.{Judged}
use Rattle.share_reading.specs.declared.reading.ShareReading.{ShareReading}
use Rattle.share_reading.specs.declared.reading.ShareReading.TheVariants.{Beginning}
use Rattle.share_reading.specs.declared.verdict.Verdict.{Verdict}
use Rattle.share_reading.specs.declared.verdict.Verdict.TheVariants as verdicts
use Rattle.checker.specs.Pieces.{HasAdded, IsEmpty}
use Rattle.checker.specs.declared.offers.Offer.{Offer}
use Rattle.checker.specs.declared.offers.Stage.TheVariants.{Waiting, Ended}
use Rattle.checker.specs.declared.wanted.Came.TheVariants.{Waits}

abbrev pub key_of : Offer → Pair
key_of o = (o.server, o.share)

-- nothing is judged of a share of which nothing was read
abbrev pub IsUnjudged : Judged → Type 0
IsUnjudged j = (cap : VerifyCapValue) → IsJudgedBy cap [] [] (Beginning Start) j

-- an offer of a share that is not read yet
pub record IsNew (keeps : Bool) (o : Offer) : Type 0 where
  pub front : o.front.items ≡ []
  pub back : o.back.items ≡ []
  pub wanted : o.wanted.items ≡ []
  pub judged : IsUnjudged o.judged
  pub pieces : IsEmpty keeps o.pieces
  pub stage : o.stage ≡ Waiting

-- the same offer, with one more request that brought its bytes
pub record IsKeptBy (reading : ShareReading) (position : ℕ) (bytes : List ℕ) (old new : Offer)
    : Type 0 where
  pub server : new.server ≡ old.server
  pub share : new.share ≡ old.share
  pub front : new.front.items
      ≡ (if is_behind reading then old.front.items else old.front.items ++ position ∷ [])
  pub back : new.back.items
      ≡ (if is_behind reading then old.back.items ++ position ∷ [] else old.back.items)
  pub pieces : HasAdded (is_behind reading) bytes old.pieces new.pieces

-- what comes of the bytes that the request at a position brought, which the reading asked for next
pub record IsTaken (cap : VerifyCapValue) (reading : ShareReading) (position : ℕ) (bytes : List ℕ)
    (found : Found) (old new : Offer) : Type 0 where
  pub kept : IsKeptBy reading position bytes old new
  pub comes : Comes cap reading bytes found
  pub judged : (front back : List Brought) → IsReadBy cap front back reading
      → IsJudgedBy cap front back reading old.judged
      → IsJudgedOn cap old.share front back reading bytes found new.judged

-- the same offer once its verdict is found: of a good share the bytes stay
pub record IsEndedBy (verdict : Verdict) (old new : Offer) : Type 0 where
  pub server : new.server ≡ old.server
  pub share : new.share ≡ old.share
  pub front : new.front ≡ old.front
  pub back : new.back ≡ old.back
  pub keeps : new.pieces.keeps ≡ old.pieces.keeps
  pub pieces : verdict ≡ verdicts.Good → new.pieces ≡ old.pieces
  pub stage : new.stage ≡ Ended verdict

-- the same offer, with one more piece that is asked for, by the request at this position
pub record IsWanting (position : ℕ) (old new : Offer) : Type 0 where
  pub server : new.server ≡ old.server
  pub share : new.share ≡ old.share
  pub front : new.front ≡ old.front
  pub back : new.back ≡ old.back
  pub wanted : new.wanted.items
      ≡ old.wanted.items ++ record { position = position; came = Waits } ∷ []
  pub judged : new.judged ≡ old.judged
  pub pieces : new.pieces ≡ old.pieces
  pub stage : new.stage ≡ old.stage
