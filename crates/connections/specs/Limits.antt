-- What a connection holds.
use Rattle.std.specs.Prelude.{◌≡◌, ◌≤◌, ℕ, List, length}
use Rattle.wire.specs.Stream.{FeedState}

-- room for a greeting, of which so many bytes came; less than a frame and what one call reads
pub record IsWithin (room : List ℕ) (greeted : ℕ) (stream : FeedState) : Type 0 where
  pub size : length room ≡ 64
  pub greeting : greeted ≤ 64
  pub held : length stream.rest ≤ 131075
