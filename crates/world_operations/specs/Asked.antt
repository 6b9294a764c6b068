-- Whether an operation asked servers which shares they hold.
use Rattle.std.specs.Prelude.{ℕ, List, ⊤}
use Rattle.answer_laws.specs.Asking.Checks.{CheckAsksAll}
use Rattle.answer_laws.specs.Asking.Downloads.{DownloadAsksAll}
use Rattle.world_operations.specs.declared.task.Task.{Task}
use Rattle.world_operations.specs.declared.task.Task.TheVariants.{Uploading, Downloading}
use Rattle.world_operations.specs.declared.task.Task.TheVariants.{Checking, Gone}

-- A check asked each of these servers, and so did a download that is not done.
abbrev pub HasAsked : List ℕ → Task → Type 0
HasAsked servers (Downloading d) = DownloadAsksAll servers d
HasAsked servers (Checking c) = CheckAsksAll servers c
HasAsked servers (Uploading u) = ⊤
HasAsked servers (Gone number) = ⊤
