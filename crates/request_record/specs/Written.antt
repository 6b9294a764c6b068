-- Which requests are in memory: all but the Writings that were written.
use Rattle.std.specs.Prelude.{ℕ, ◌+◌, ◌==◌, not, Bool, false, List, Option, Some, None}
use Rattle.std.specs.Prelude.{filter, if◌then◌else◌, IsSome, slice_get}
use Rattle.wire.specs.declared.message.Body.TheVariants.{Wrote, WrongOffset}
use Rattle.request_record.specs.declared.requests.Asked.{Asked}
use Rattle.request_record.specs.declared.requests.Asked.TheVariants.{Writing}
use Rattle.request_record.specs.declared.requests.Outcome.{Outcome}
use Rattle.request_record.specs.declared.requests.Outcome.TheVariants.{Answered}
use Rattle.request_record.specs.declared.requests.Request.{Request}

-- Were all bytes of a Writing written, by its answer?
abbrev pub wrote_all : Asked → Outcome → Bool
wrote_all (Writing share offset len) (Answered (Wrote next)) = next == offset + len
wrote_all (Writing share offset len) (Answered (WrongOffset next)) = next == offset + len
wrote_all asked outcome = false

abbrev pub is_written : Request → Bool
is_written r = wrote_all r.asked r.outcome

-- Of a request that was written nothing is in memory.
abbrev pub kept : Option Request → Option Request
kept None = None
kept (Some r) = if is_written r then None else Some r

abbrev pub kept_of : List Request → List Request
kept_of entries = filter (λ (r : Request). not (is_written r)) entries

-- the request at a position is in memory
abbrev pub IsKeptAt : List Request → ℕ → Type 0
IsKeptAt entries position = IsSome (kept (slice_get entries position))
