-- The reading of a range of a share: what it asks, and what was answered.
use Rattle.std.specs.Prelude.{◌≡◌, ℕ, ◌*◌, ◌<◌, List, length, take, drop, nat_lt, slice_get, Some}
use Rattle.wire.specs.Limits.{most_data}
use Rattle.wire.specs.declared.message.Body.TheVariants.{Data}
use Rattle.request_record.specs.Asking.{SendsFirst, after_message, after_tick, fresh}
use Rattle.request_record.specs.Operations.{OperationCalls}
use Rattle.request_record.specs.Record.{RequestsState, asked_all, outstanding_count}
use Rattle.request_record.specs.declared.requests.Outcome.TheVariants.{Answered}
use Rattle.request_record.specs.declared.requests.Request.{Request}
use Rattle.carried_operations.specs.Ranges.{read_at, read_count, reads_of}
use Rattle.carried_operations.specs.declared.range.ShareRange.{ShareRange}

-- the storage index of the share's file, the range, and the record of what was asked
pub record FetchState : Type 0 where
  pub index : List ℕ
  pub range : ShareRange
  pub requests : RequestsState

-- the same with another record
abbrev pub with_record : FetchState → RequestsState → FetchState
with_record f r = record f { requests = r }

-- A fetch begins: all reads of the range are asked.
pub record Begins (index : List ℕ) (range : ShareRange) (session now : ℕ) (f : FetchState)
    : Type 0 where
  pub index_is : f.index ≡ index
  pub range_is : f.range ≡ range
  pub asks : f.requests ≡ asked_all (reads_of range) (fresh session now)

-- What its calls do. It runs while a read waits for its answer.
abbrev pub fetch_calls : OperationCalls FetchState
fetch_calls = record {
  requests = λ f. f.requests;
  runs = λ f. nat_lt 0 (outstanding_count f.requests.entries);
  takes = λ old taken new. SendsFirst old.index old.requests taken new.requests
      × (new ≡ with_record old new.requests);
  hears = λ old from m now new. new ≡ with_record old (after_message from m now old.requests);
  ticks = λ old now new. new ≡ with_record old (after_tick now old.requests);
  gives_up = λ old new. new ≡ old;
}

-- the read of this number was asked of the share's server, and answered by these bytes
pub record IsReadBy (range : ShareRange) (entries : List Request) (number : ℕ) (bytes : List ℕ)
    : Type 0 where
  pub request : Request
  pub there : slice_get entries number ≡ Some request
  pub server : request.server ≡ range.place.server
  pub asked : request.asked ≡ read_at range number
  pub answer : request.outcome ≡ Answered (Data bytes)

-- the bytes of a read among those of the range
abbrev pub part : ℕ → List ℕ → List ℕ
part number bytes = take most_data (drop (number * most_data) bytes)

-- These are the bytes of the range: each read of it was answered by its part of them.
pub record IsFetched (f : FetchState) (bytes : List ℕ) : Type 0 where
  pub long : length bytes ≡ f.range.length
  pub each : (number : ℕ) → number < read_count f.range.length
      → IsReadBy f.range f.requests.entries number (part number bytes)

-- ---- words of private clauses

-- the read of this number is asked of the share's server
pub record IsAskedAt (range : ShareRange) (entries : List Request) (number : ℕ) : Type 0 where
  pub request : Request
  pub there : slice_get entries number ≡ Some request
  pub server : request.server ≡ range.place.server
  pub asked : request.asked ≡ read_at range number

-- each read of the range is asked
abbrev pub AreAsked : ShareRange → List Request → Type 0
AreAsked range entries = (number : ℕ) → number < read_count range.length
    → IsAskedAt range entries number
