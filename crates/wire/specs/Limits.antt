-- The limits of messages, each here once.
use Rattle.std.specs.Prelude.{ℕ, ◌^◌}

-- the most bytes that the body of a frame has
abbrev pub most_body : ℕ
most_body = 65536

-- the most bytes that a Write, a Read or a Data carries or asks for
abbrev pub most_data : ℕ
most_data = 32768

-- the most bytes that a share has
abbrev pub longest_share : ℕ
longest_share = 2 ^ 41

-- how many shares a file has at most: their numbers are below it, and a Have lists no more
abbrev pub most_shares : ℕ
most_shares = 256
