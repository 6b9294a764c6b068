-- What the calls on one share number do.
use Rattle.std.specs.Prelude.{◌==◌, ℕ, Bool, false, List, [], ◌∷◌, ◌++◌, Option, Some}
use Rattle.std.specs.Prelude.{None, is_some, count_by, if◌then◌else◌}
use Rattle.request_record.specs.Record.{without}
use Rattle.download_shares.specs.HoldingState.{NumberState}

abbrev pub no_holding : NumberState
no_holding = record { left = []; reading = None }

-- is it the one that is read?
abbrev pub is_at : ℕ → Option ℕ → Bool
is_at position None = false
is_at position (Some other) = other == position

abbrev pub released : ℕ → Option ℕ → Option ℕ
released position reading = if is_at position reading then None else reading

abbrev pub taken_up : ℕ → Option ℕ → Option ℕ
taken_up position None = Some position
taken_up position (Some other) = Some other

-- one more holding, and one less
abbrev pub with_position : ℕ → NumberState → NumberState
with_position position n = record n { left = n.left ++ position ∷ [] }

abbrev pub without_position : ℕ → NumberState → NumberState
without_position position n = record {
  left = without position n.left;
  reading = released position n.reading;
}

-- of how many numbers a holding is read
abbrev pub read_count : List NumberState → ℕ
read_count numbers = count_by (λ (n : NumberState). is_some n.reading) numbers
