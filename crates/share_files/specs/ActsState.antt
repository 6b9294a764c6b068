-- What was done to the files of a folder, the last act first, and in how many steps.
use Rattle.std.specs.Prelude.{ℕ, List}
use Rattle.share_files.specs.declared.acts.Act.{Act}

pub record ActsState : Type 0 where
  pub steps : ℕ
  pub done : List Act
