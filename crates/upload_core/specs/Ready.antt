-- An upload that is ready to begin.
use Rattle.std.specs.Prelude.{ℕ}
use Rattle.upload_core.specs.State.{Goal}

-- where the bytes of its shares come from, what is to be placed, and how many servers are to hold a
-- share of their own
pub record Ready (P : Type 0) : Type 0 where
  pub pieces : P
  pub goal : Goal
  pub happy : ℕ
