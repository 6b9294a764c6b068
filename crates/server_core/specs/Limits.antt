-- The limits of a server, each here once.
use Rattle.std.specs.Prelude.{ℕ}

-- the most buckets that are open at a time
abbrev pub most_buckets : ℕ
most_buckets = 1024

-- the seconds after which an untouched bucket is dropped
abbrev pub idle_limit : ℕ
idle_limit = 600
