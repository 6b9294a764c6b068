-- How many turns of the loop a command takes.
use Rattle.std.specs.Prelude.{ℕ, ◌*◌, ◌-◌, ◌^◌, max, min}
use Rattle.std.specs.Int.{div_ceil}

-- the pieces of some shares of one length, of 32,768 bytes each
abbrev pub piece_count : ℕ → ℕ → ℕ
piece_count shares share_length = shares * div_ceil share_length 32768

-- four turns for each piece, and 100,000,000 at least; the number of turns has 64 bits
abbrev pub turn_limit : ℕ → ℕ
turn_limit pieces = max (min (4 * pieces) (2 ^ 64 - 1)) 100000000
