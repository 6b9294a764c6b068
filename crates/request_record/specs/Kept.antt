-- Answers that are kept, and those of which the bytes are handed out.
use Rattle.std.specs.Prelude.{◌≡◌, ℕ, List, Option, Some, None, slice_get}
use Rattle.wire.specs.declared.message.Body.{Body}
use Rattle.wire.specs.declared.message.Body.TheVariants.{Data}
use Rattle.request_record.specs.declared.kept.Answer.{Answer}
use Rattle.request_record.specs.declared.kept.Answer.TheVariants.{Whole, Seen}
use Rattle.request_record.specs.declared.requests.Outcome.{Outcome}
use Rattle.request_record.specs.declared.requests.Outcome.TheVariants.{Answered}
use Rattle.request_record.specs.declared.requests.Request.{Request}

-- the bytes that an answer brings, where it is a Data
abbrev pub data_in : Body → Option (List ℕ)
data_in (Data bytes) = Some bytes
data_in body = None

-- the request at a position was answered by a Data with these bytes
pub record IsDataAt (entries : List Request) (position : ℕ) (bytes : List ℕ) : Type 0 where
  pub request : Request
  pub there : slice_get entries position ≡ Some request
  pub answer : request.outcome ≡ Answered (Data bytes)

-- ---- words of private clauses

-- the answer that is kept
abbrev pub body_of : Answer → Body
body_of (Whole body) = body
body_of (Seen seen) = seen.value

-- Just of a Data nothing is in memory.
abbrev pub IsKept : Answer → Type 0
IsKept (Whole body) = data_in body ≡ None
IsKept (Seen seen) = (bytes : List ℕ) × (seen.value ≡ Data bytes)

abbrev pub data_as : Outcome → Option (List ℕ)
data_as (Answered body) = data_in body
data_as outcome = None

-- the bytes of the Data that answered a request
abbrev pub data_of : Request → Option (List ℕ)
data_of r = data_as r.outcome
