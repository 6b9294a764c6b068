-- The exit status of `grid`, by how it ended.
use Rattle.std.specs.Prelude.{◌≡◌, ◌⊎◌, ℕ, Result, Ok, Err}
use Rattle.std.specs.declared.io.ErrorKind.{ErrorKind as ReadKind}
use Rattle.std.specs.declared.io.ErrorKind.TheVariants as reads
use Rattle.clap.specs.declared.error.kind.ErrorKind.{ErrorKind}
use Rattle.clap.specs.declared.error.kind.ErrorKind.TheVariants as kinds
use Rattle.grid_faults.specs.Fault.{fault_status}
use Rattle.grid_faults.specs.declared.fault.Fault.TheVariants as faults
use Rattle.grid_serve.specs.Faults.{serve_status}
use Rattle.grid_serve.specs.declared.fault.ServeFault.{ServeFault}
use Rattle.grid_telling.specs.declared.outcome.Failure.{Failure}
use Rattle.grid_telling.specs.declared.outcome.Failure.TheVariants as failures

-- why a command has no result: a fault, or its result could not be written
abbrev pub failure_status : Failure → ℕ
failure_status (failures.Fault fault) = fault_status fault
failure_status failures.Writer = fault_status faults.Output

-- the status of how a command ended
abbrev pub exit_status : Result ℕ Failure → ℕ
exit_status (Ok status) = status
exit_status (Err failure) = failure_status failure

-- What has this status is told on standard error; where that cannot be written it is 7.
abbrev pub IsToldAs : ℕ → ℕ → Type 0
IsToldAs status exit = (exit ≡ status) ⊎ (exit ≡ 7)

-- A command ended so, and this is the exit status. Nothing is told of one that has its result.
abbrev pub IsExit : Result ℕ Failure → ℕ → Type 0
IsExit (Ok status) exit = exit ≡ status
IsExit (Err failure) exit = IsToldAs (failure_status failure) exit

-- A folder was served until it ended so, and this is the exit status.
abbrev pub IsServingExit : Result (Unit {0}) ServeFault → ℕ → Type 0
IsServingExit (Ok done) exit = exit ≡ 0
IsServingExit (Err fault) exit = IsToldAs (serve_status fault) exit

-- The same, however it ended.
pub record IsServingEnd (exit : ℕ) : Type 0 where
  pub ended : Result (Unit {0}) ServeFault
  pub told : IsServingExit ended exit

-- the status of words that ask for no command, and of those that ask for help
abbrev pub words_status : ErrorKind → ℕ
words_status kinds.OutOfMemory = fault_status faults.OutOfMemory
words_status kinds.DisplayHelp = 0
words_status kinds.DisplayVersion = 0
words_status _ = 2

-- the status of words that could not be read: wrong ones are no text
abbrev pub unread_status : ReadKind → ℕ
unread_status reads.InvalidData = 2
unread_status _ = fault_status faults.OutOfMemory
