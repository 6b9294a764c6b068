-- Bytes that go from a reader to a writer.
use Rattle.std.specs.Prelude.{◌≡◌, ℕ, List, length, Option}
use Rattle.std.specs.Io.KnownBytes.{Appends, Consumes}

-- bytes that were read were written, and so many are they
pub record Copies (old new before after : Option (List ℕ)) (count : ℕ) : Type 0 where
  pub bytes : List ℕ
  pub read : Consumes old new bytes
  pub written : Appends before after bytes
  pub counted : count ≡ length bytes
