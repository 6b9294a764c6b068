-- A file whose extension block is accepted, and the shares that are read of it.
use Rattle.std.specs.Prelude.{ℕ, List}
use Rattle.download_file.specs.State.{FileState}

-- `holdings` has for each reader of the file, in their order, the position of the holding that it
-- reads
pub record ReadingState : Type 0 where
  pub file : FileState
  pub holdings : List ℕ

-- the value of a reading with these fields
abbrev pub reading_state : FileState → List ℕ → ReadingState
reading_state file holdings = record { file = file; holdings = holdings }
