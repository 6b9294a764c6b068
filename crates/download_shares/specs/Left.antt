-- Which shares servers told they hold, and which of these are left.
use Rattle.std.specs.Prelude.{◌≡◌, ◌⊎◌, ℕ, ◌<◌, Bool, List, Some, length, slice_get, Contains}
use Rattle.wire.specs.declared.message.Body.TheVariants.{Have, NoShare}
use Rattle.wire.specs.declared.message.HeldShare.{HeldShare}
use Rattle.request_record.specs.declared.requests.Asked.TheVariants.{Holdings, Reading}
use Rattle.request_record.specs.declared.requests.Outcome.TheVariants.{Answered, Lost}
use Rattle.request_record.specs.declared.requests.Request.{Request}
use Rattle.download_shares.specs.declared.holding.Blame.{Blame}

-- the server told that it holds the share
pub record IsOffered (entries : List Request) (server share : ℕ) : Type 0 where
  pub position : ℕ
  pub request : Request
  pub there : slice_get entries position ≡ Some request
  pub of_server : request.server ≡ server
  pub asked : request.asked ≡ Holdings
  pub readonly : Bool
  pub held : List HeldShare
  pub answer : request.outcome ≡ Answered (Have readonly held)
  pub index : ℕ
  pub listed : HeldShare
  pub among : slice_get held index ≡ Some listed
  pub number : listed.share ≡ share

-- a read of the share found no answer, or no share
pub record IsGone (entries : List Request) (server share : ℕ) : Type 0 where
  pub position : ℕ
  pub request : Request
  pub there : slice_get entries position ≡ Some request
  pub of_server : request.server ≡ server
  pub offset : ℕ
  pub len : ℕ
  pub asked : request.asked ≡ Reading share offset len
  pub gone : (request.outcome ≡ Lost) ⊎ (request.outcome ≡ Answered NoShare)

-- the share failed a check
pub record IsBlamed (blamed : List Blame) (server share : ℕ) : Type 0 where
  pub position : ℕ
  pub blame : Blame
  pub there : slice_get blamed position ≡ Some blame
  pub of_server : blame.server ≡ server
  pub of_share : blame.share ≡ share

-- the share is neither gone nor blamed
abbrev pub IsLeft : List Request → List Blame → ℕ → ℕ → Type 0
IsLeft entries blamed server share =
    (IsGone entries server share → ⊥) × (IsBlamed blamed server share → ⊥)

-- fewer share numbers below `total` than are needed are left at any server that offered them
pub record FewAreLeft (needed total : ℕ) (entries : List Request) (blamed : List Blame)
    : Type 0 where
  pub numbers : List ℕ
  pub few : length numbers < needed
  pub all : (server share : ℕ) → share < total → IsOffered entries server share
      → IsLeft entries blamed server share → Contains numbers share
