-- How a share is read on by what came for its pieces. It is said of whatever record the share is
-- read by.
use Rattle.std.specs.Prelude.{◌≡◌, ◌⊎◌, ℕ, List, [], ◌∷◌, length, Option, Some, None, Bool, true}
use Rattle.std.specs.Prelude.{Vec, slice_get, slice_set}
use Rattle.std.specs.Global.{Global}
use Rattle.cap_text.specs.Cap.{VerifyCapValue}
use Rattle.request_record.specs.declared.requests.Request.{Request}
use Rattle.share_reading.specs.Reading.{next_length}
use Rattle.share_reading.specs.declared.judged.Found.{Found}
use Rattle.share_reading.specs.declared.reading.ShareReading.{ShareReading}
use Rattle.share_reading.specs.declared.verdict.Verdict.{Verdict}
use Rattle.checker.specs.Book.{IsBrought, IsEnded, IsReading, IsSettledAt, IsWithOffers}
use Rattle.checker.specs.Offers.{IsTaken}
use Rattle.checker.specs.Wanted.{AnyWaits}
use Rattle.checker.specs.declared.offers.Offer.{Offer}
use Rattle.checker.specs.declared.state.Machine.{Machine}
use Rattle.checker.specs.declared.offers.Stage.TheVariants.{Read, Ended}
use Rattle.checker.specs.declared.wanted.Came.{Came}
use Rattle.checker.specs.declared.wanted.Came.TheVariants.{Bytes}
use Rattle.checker.specs.declared.wanted.Wanted.{Wanted}

-- the share is read so far, and these bytes answered the request for one of its pieces, or none did
pub record Hears (cap : VerifyCapValue) (entries : List Request) (todo : List ℕ) (o : Offer)
    (r : ShareReading) (piece : ℕ) (bytes : Option (List ℕ)) : Type 0 where
  pub wanted : Wanted
  pub there : slice_get o.wanted.items piece ≡ Some wanted
  pub is : IsReading cap entries (wanted.position ∷ todo) o r
  pub settled : IsSettledAt entries wanted.position
  pub brought : IsBrought entries wanted.position bytes

-- it is the same offer, but for what came for one of its pieces
pub record IsNoted (piece : ℕ) (came : Came) (old new : Offer) : Type 0 where
  pub was : Wanted
  pub there : slice_get old.wanted.items piece ≡ Some was
  pub wanted : new.wanted.items
      ≡ slice_set old.wanted.items piece (record { position = was.position; came = came })
  pub rest : new ≡ record old { wanted = new.wanted }

-- the same share, whose bytes are kept or not as before
pub record IsSameShare (old new : Offer) : Type 0 where
  pub server : new.server ≡ old.server
  pub share : new.share ≡ old.share
  pub keeps : new.pieces.keeps ≡ old.pieces.keeps

-- it is read so far, and waits for a piece or asks for none; or its verdict is found
abbrev pub StandsAt : Offer → Option ShareReading → Type 0
StandsAt o (Some r) =
    (o.stage ≡ Read r) × (AnyWaits o.wanted.items ⊎ (o.wanted.items ≡ []))
StandsAt o None = (v : Verdict) × (o.stage ≡ Ended v)

-- the same by a record
abbrev pub ComesTo : VerifyCapValue → List Request → List ℕ → Offer → Option ShareReading → Type 0
ComesTo cap entries todo o (Some r) = IsReading cap entries todo o r
ComesTo cap entries todo o None =
    (v : Verdict) × (o.stage ≡ Ended v) × IsEnded cap entries o v

-- what came for a piece is taken, and the share is read on
pub record IsHeard (cap : VerifyCapValue) (old : Offer) (r : ShareReading) (piece : ℕ)
    (bytes : Option (List ℕ)) (new : Offer) (next : Option ShareReading) : Type 0 where
  pub same : IsSameShare old new
  pub stands : StandsAt new next
  pub comes : (entries : List Request) (todo : List ℕ)
      → Hears cap entries todo old r piece bytes → ComesTo cap entries todo new next

-- the share is read on by what came
pub record IsReadOn (cap : VerifyCapValue) (old : Offer) (r : ShareReading) (new : Offer)
    (next : Option ShareReading) : Type 0 where
  pub same : IsSameShare old new
  pub stands : StandsAt new next
  pub comes : (entries : List Request) (todo : List ℕ)
      → IsReading cap entries todo old r → ComesTo cap entries todo new next

-- the piece that is read next is there: as long as was asked for, where another waits
pub record IsReady (r : ShareReading) (waits : Bool) (wanted : List Wanted) : Type 0 where
  pub first : Wanted
  pub rest : List Wanted
  pub is : wanted ≡ first ∷ rest
  pub bytes : Vec ℕ Global
  pub came : first.came ≡ Bytes bytes
  pub long : waits ≡ true → length bytes.items ≡ next_length r

-- the piece that was read next is taken
pub record IsTakenFirst (cap : VerifyCapValue) (r : ShareReading) (found : Found)
    (old new : Offer) : Type 0 where
  pub first : Wanted
  pub bytes : Vec ℕ Global
  pub came : first.came ≡ Bytes bytes
  pub wanted : old.wanted.items ≡ first ∷ new.wanted.items
  pub taken : IsTaken cap r first.position bytes.items found old new

-- what came for a piece of the share at a position among the offers is taken
pub record IsHeardIn (old : Machine) (k : ℕ) (r : ShareReading) (piece : ℕ)
    (bytes : Option (List ℕ)) (o : Offer) (new : Machine) (next : Option ShareReading)
    : Type 0 where
  pub offer : Offer
  pub heard : IsHeard old.cap o r piece bytes offer next
  pub is : IsWithOffers old new (slice_set old.offers.items k offer) old.begun
