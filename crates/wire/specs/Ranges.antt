-- Which lengths messages carry.
use Rattle.std.specs.Prelude.{ℕ, nat_le, ◌&&◌, List, length, Option, Some, None, if◌then◌else◌}
use Rattle.wire.specs.Limits.{longest_share, most_data}

-- the bytes of a share: 1 to 2^41
abbrev pub share_length : ℕ → Option ℕ
share_length n = if nat_le 1 n && nat_le n longest_share then Some n else None

-- the bytes that a read asks for: 1 to 32,768
abbrev pub read_length : ℕ → Option ℕ
read_length n = if nat_le 1 n && nat_le n most_data then Some n else None

-- the bytes of a write: 1 to 32,768 of them
abbrev pub write_data : List ℕ → Option (List ℕ)
write_data bytes =
    if nat_le 1 (length bytes) && nat_le (length bytes) most_data then Some bytes else None

-- the bytes that were read: at most 32,768
abbrev pub read_data : List ℕ → Option (List ℕ)
read_data bytes = if nat_le (length bytes) most_data then Some bytes else None
