-- The requests in memory with their positions, as private clauses say it.
use Rattle.std.specs.Prelude.{◌≡◌, ◌≤◌, ◌<◌, ◌==◌, ◌+◌, ℕ, List, [], ◌∷◌, Option, Some, None}
use Rattle.std.specs.Prelude.{Bool, if◌then◌else◌, length, All, take, drop}
use Rattle.request_record.specs.declared.entries.Entry.{Entry}
use Rattle.request_record.specs.declared.requests.Outcome.{Outcome}
use Rattle.request_record.specs.declared.requests.Request.{Request}
use Rattle.request_record.specs.Record.{is_outstanding, ticked_one, with_outcome}
use Rattle.request_record.specs.Written.{is_written}

-- the requests that were not written with their positions, the first of all at this position
abbrev pub entries_from : ℕ → List Request → List Entry
entries_from position [] = []
entries_from position (r ∷ rs) =
    if is_written r
    then entries_from (position + 1) rs
    else record { position = position; request = r } ∷ entries_from (position + 1) rs

-- In memory are, with their positions, just the requests that were not written.
pub record IsInMemory (len : ℕ) (entries : List Entry) (requests : List Request) : Type 0 where
  pub counts : len ≡ length requests
  pub kept : entries ≡ entries_from 0 requests

-- the first entry, where its position is this one
abbrev pub request_here : ℕ → Option Entry → Option Request
request_here position None = None
request_here position (Some e) = if e.position == position then Some e.request else None

-- there is an entry, with this position
abbrev pub IsHere : ℕ → Option Entry → Type 0
IsHere position None = ⊥
IsHere position (Some e) = e.position ≡ position

-- an entry after a tick
abbrev pub ticked_entry : ℕ → Entry → Entry
ticked_entry now e = record { position = e.position; request = ticked_one now e.request }

-- an entry whose request is settled so
abbrev pub settled_entry : Outcome → Entry → Entry
settled_entry outcome e = record { position = e.position; request = with_outcome e.request outcome }

-- Before this index are the entries before a position, and behind it those from the position on.
pub record IsCut (position : ℕ) (entries : List Entry) (at : ℕ) : Type 0 where
  pub within : at ≤ length entries
  pub before : All (λ (e : Entry). e.position < position) (take at entries)
  pub behind : All (λ (e : Entry). position ≤ e.position) (drop at entries)

-- the positions of the entries whose requests pass a test
abbrev pub positions_of : (Request → Bool) → List Entry → List ℕ
positions_of test [] = []
positions_of test (e ∷ es) =
    if test e.request then e.position ∷ positions_of test es else positions_of test es

-- the position of the first entry whose request waits, or the end
abbrev pub first_position : List Entry → ℕ → ℕ
first_position [] end = end
first_position (e ∷ es) end =
    if is_outstanding e.request.outcome then e.position else first_position es end
