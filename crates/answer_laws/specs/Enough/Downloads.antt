-- A download finds the shares that servers tell, where these are enough.
use Rattle.std.specs.Prelude.{◌≡◌, ℕ, ◌<◌, List, [], Contains, length, slice_index_or}
use Rattle.tagged_hash.specs.Clash.{HasNoClashIn}
use Rattle.cap_text.specs.Cap.{verify_cap_of}
use Rattle.ueb.specs.Shape.{Contents}
use Rattle.zfec_code.specs.Rows.{AreDistinct}
use Rattle.placement.specs.Matching.{Pair, shares_of}
use Rattle.request_record.specs.declared.requests.Request.{Request}
use Rattle.download_core.specs.State.{DownloadState}
use Rattle.download_core.specs.declared.status.DownloadStatus.TheVariants.{NotEnoughShares}
use Rattle.answer_laws.specs.Downloads.Downloads.{AreSharesFor, IsDownloadBy}
use Rattle.answer_laws.specs.Asking.Downloads.{DownloadAsksAll}
use Rattle.answer_laws.specs.Enough.Answers.{TellsShare, WasLost}

-- the pair's server is one of these, and tells the share of that number, one of the file's
pub record IsTold (d : DownloadState) (shares : List (List ℕ)) (servers : List ℕ) (pair : Pair)
    : Type 0 where
  pub of : Contains servers pair.0
  pub low : pair.1 < d.cap.total
  pub tells : TellsShare d.requests.entries pair.0 pair.1 (slice_index_or shares pair.1 [])

-- these pairs are of as many different share numbers as are needed, and each is told
pub record AreEnough (d : DownloadState) (shares : List (List ℕ)) (servers : List ℕ)
    (pairs : List Pair) : Type 0 where
  pub count : length pairs ≡ d.cap.needed
  pub different : AreDistinct (shares_of pairs)
  pub told : (pair : Pair) → Contains pairs pair → IsTold d shares servers pair

-- one of the requests to the server of one of these pairs was lost
pub record WasLostOf (entries : List Request) (pairs : List Pair) : Type 0 where
  pub pair : Pair
  pub among : Contains pairs pair
  pub lost : WasLost entries pair.0

-- Without a clash a download, which asked these servers what they hold, gives up only where a
-- request to one of those was lost that tell enough shares.
abbrev pub EnoughAreFoundIn : (List ℕ → Type 0) → Type 0
EnoughAreFoundIn IsOne = HasNoClashIn IsOne
    → (d : DownloadState) (u : Contents) (shares : List (List ℕ)) (servers : List ℕ)
    (pairs : List Pair) → IsDownloadBy IsOne u d
    → AreSharesFor IsOne (verify_cap_of d.cap) u shares → DownloadAsksAll servers d
    → AreEnough d shares servers pairs → d.status ≡ NotEnoughShares
    → WasLostOf d.requests.entries pairs

-- a law: so it is where all that is hashed is in a list
abbrev pub EnoughAreFound : Type 0
EnoughAreFound = (inputs : List (List ℕ)) → EnoughAreFoundIn (Contains inputs)
