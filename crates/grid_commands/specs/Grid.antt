-- What `grid` does by the words of a command line.
use Rattle.std.specs.Prelude.{◌≡◌, ℕ, List, Option, true}
use Rattle.clap.specs.Words.{Text, kind_of, subcommand_of, takes}
use Rattle.clap.specs.declared.error.Error.{Error}
use Rattle.clap.specs.declared.error.kind.ErrorKind.TheVariants.{OutOfMemory}
use Rattle.sources.specs.Opened.{Opened}
use Rattle.grid_gets.specs.Files.{FileAct}
use Rattle.grid_servers.specs.Grids.{GridCalls}
use Rattle.grid_words.specs.Asked.{IsAsked}
use Rattle.grid_words.specs.CommandLine.{grid_app}
use Rattle.grid_words.specs.declared.words.Request.{Request}
use Rattle.grid_commands.specs.Commands.{IsServedBy}
use Rattle.grid_commands.specs.Exit.{IsToldAs, words_status}

-- The words ask for a command, where this grid is meant if none is written, and that was served; or
-- they were refused, and why is told.
pub data IsGridBy {F S : Type 0} (gives : Opened F → ℕ → List ℕ → Opened F → Type 0)
    (calls : GridCalls S) (grid : Option Text) (words : List Text) (status : ℕ)
    (before after : Option (List ℕ)) (old new : Option (List FileAct)) : Type 0 where
  served : (request : Request) → IsAsked (subcommand_of (grid_app grid) words) request
      → IsServedBy gives calls request status before after old new
      → IsGridBy gives calls grid words status before after old new
  refused : (error : Error)
      → (takes (grid_app grid) words ≡ true → kind_of error ≡ OutOfMemory)
      → IsToldAs (words_status (kind_of error)) status → new ≡ old
      → IsGridBy gives calls grid words status before after old new
