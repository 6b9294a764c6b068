-- Whether each of its servers was asked by an operation which shares it holds.
use Rattle.std.specs.Prelude.{◌≡◌, ℕ, List, Some, slice_get, Contains}
use Rattle.request_record.specs.declared.requests.Asked.TheVariants.{Aborting, Holdings}
use Rattle.request_record.specs.declared.requests.Outcome.TheVariants.{Unawaited}
use Rattle.request_record.specs.declared.requests.Request.{Request}

-- the server was asked which shares it holds
pub record IsAsked (entries : List Request) (server : ℕ) : Type 0 where
  pub position : ℕ
  pub request : Request
  pub there : slice_get entries position ≡ Some request
  pub of_server : request.server ≡ server
  pub asked : request.asked ≡ Holdings

-- each request waits for its answer, was answered or was lost, but one that aborts
abbrev pub AreAwaited : List Request → Type 0
AreAwaited entries = (position : ℕ) (request : Request) → slice_get entries position ≡ Some request
    → request.outcome ≡ Unawaited → (share : ℕ) × (request.asked ≡ Aborting share)

-- each of these servers was asked which shares it holds
pub record AsksAll (servers : List ℕ) (entries : List Request) : Type 0 where
  pub asked : (server : ℕ) → Contains servers server → IsAsked entries server
  pub awaited : AreAwaited entries
