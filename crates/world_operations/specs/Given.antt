-- What operations handed out, and what was hashed for it, and to test what was read.
use Rattle.std.specs.Prelude.{ℕ, List, Contains}
use Rattle.download_core.specs.Hashed as download
use Rattle.download_core.specs.Tested as download_tests
use Rattle.checker.specs.Tested as check_tests
use Rattle.download_segments.specs.declared.piece.Piece.{Piece}
use Rattle.world_operations.specs.declared.task.Task.{Task}
use Rattle.world_operations.specs.declared.task.Task.TheVariants.{Uploading, Downloading}
use Rattle.world_operations.specs.declared.task.Task.TheVariants.{Checking, Gone}

-- only a download hands pieces out
abbrev pub IsGivenBy : Task → Piece → Type 0
IsGivenBy (Downloading d) p = download.IsGivenBy d p
IsGivenBy (Uploading u) p = ⊥
IsGivenBy (Checking c) p = ⊥
IsGivenBy (Gone number) p = ⊥

-- each of these pieces was given by the machine
abbrev pub AreGivenBy : Task → List Piece → Type 0
AreGivenBy task pieces = (p : Piece) → Contains pieces p → IsGivenBy task p

-- this was hashed by a download for what it gave
abbrev pub IsHashedBy : Task → List ℕ → Type 0
IsHashedBy (Downloading d) input = download.IsHashed d input
IsHashedBy (Uploading u) input = ⊥
IsHashedBy (Checking c) input = ⊥
IsHashedBy (Gone number) input = ⊥

-- this was hashed by a download or a check to test what it read
abbrev pub IsTestedBy : Task → List ℕ → Type 0
IsTestedBy (Downloading d) input = download_tests.IsTested d input
IsTestedBy (Checking c) input = check_tests.IsTested c input
IsTestedBy (Uploading u) input = ⊥
IsTestedBy (Gone number) input = ⊥
