-- The reads that fetch a range of a share. Offsets and lengths are in bytes.
use Rattle.std.specs.Prelude.{ℕ, ◌+◌, ◌-◌, ◌*◌, List, map, min}
use Rattle.std.specs.Int.{div_ceil}
use Rattle.std.specs.List.{range_with_len}
use Rattle.wire.specs.Limits.{most_data}
use Rattle.request_record.specs.declared.requests.Asked.{Asked}
use Rattle.request_record.specs.declared.requests.Asked.TheVariants.{Reading}
use Rattle.carried_operations.specs.declared.range.ShareRange.{ShareRange}

-- how many reads fetch so many bytes
abbrev pub read_count : ℕ → ℕ
read_count length = div_ceil length most_data

-- the read of this number: each but the last asks for as many bytes as a read may
abbrev pub read_at : ShareRange → ℕ → Asked
read_at r number = Reading r.place.share (r.offset + number * most_data)
    (min (r.length - number * most_data) most_data)

-- all of them, of the share's server
abbrev pub reads_of : ShareRange → List (ℕ × Asked)
reads_of r =
    map (λ number. (r.place.server, read_at r number)) (range_with_len 0 (read_count r.length))
