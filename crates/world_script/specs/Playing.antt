-- A script, played: which events are taken, and to which world they lead.
use Rattle.std.specs.Prelude.{◌≡◌, ◌↔◌, ℕ, List, [], ◌∷◌, ◌++◌, length, Option, Some, None, true}
use Rattle.std.specs.String.{string_bytes}
use Rattle.world_operations.specs.declared.operation.Operation.{Operation}
use Rattle.world.specs.declared.event.Event.{Event}
use Rattle.world.specs.Admitted.{IsAdmitted}
use Rattle.world.specs.Binding.{IsBound}
use Rattle.world.specs.Headline.{IsTrusted}
use Rattle.world.specs.Repairs.{AreTrustedRepairs}
use Rattle.world.specs.State.{WorldState, new_world}
use Rattle.world.specs.Step.{Step}
use Rattle.world_script.specs.declared.command.Command.{Command}
use Rattle.world_script.specs.declared.command.Script.{Script}
use Rattle.world_script.specs.declared.ending.Ending.{Ending}
use Rattle.world_script.specs.Agreement.{Agree}
use Rattle.world_script.specs.Events.{MakesNext}
use Rattle.world_script.specs.Telling.{ending_text}

-- After these events of earlier commands, a command has made these of its own: each is what it
-- makes next of the world as that is by then, which takes it.
pub data HasMade (command : Command) (honest : ℕ) (begin : WorldState) (before : List Event)
    : List Event → WorldState → Type 0 where
  begins : HasMade command honest begin before [] begin
  goes : {made : List Event} → {old new : WorldState} → (event : Event)
      → HasMade command honest begin before made old
      → MakesNext command honest begin.operations before made (length old.sent) (Some event)
      → IsAdmitted old event → Step old event new
      → HasMade command honest begin before (made ++ event ∷ []) new

-- The first commands have made these events, each until it made nothing more.
pub data HasPlayed (honest : ℕ) (begin : WorldState) : List Command → List Event → WorldState
    → Type 0 where
  begins : HasPlayed honest begin [] [] begin
  goes : {first : List Command} → {before made : List Event} → {old new : WorldState}
      → (command : Command) → HasPlayed honest begin first before old
      → HasMade command honest old before made new
      → MakesNext command honest old.operations before made (length new.sent) None
      → HasPlayed honest begin (first ++ command ∷ []) (before ++ made) new

-- the world in which a script begins
abbrev pub first_world : Script → WorldState
first_world script = new_world script.honest (length script.liars.items)

-- how a script that begins in a world ends: all of its commands were played, and it tells what the
-- world then is
pub record IsEndingFrom (begin : WorldState) (script : Script) (ending : Ending) : Type 0 where
  pub events : List Event
  pub world : WorldState
  pub played : HasPlayed script.honest begin script.commands.items events world
  pub trusted : IsTrusted world
  pub repairs : AreTrustedRepairs world
  pub bound : IsBound world
  pub agrees : (ending.agrees ≡ true) ↔ Agree world.operations
  pub lines : string_bytes ending.lines
      ≡ ending_text world.operations ending.agrees (length events)

abbrev pub IsEnding : Script → Ending → Type 0
IsEnding script = IsEndingFrom (first_world script) script

-- A command cannot go on, after these events of earlier commands and these of its own: it makes
-- neither an event nor an end, or it makes an event that the world refuses.
pub data IsStuck (command : Command) (honest : ℕ) (operations : List Operation)
    (before made : List Event) (world : WorldState) : Type 0 where
  has_none : ((next : Option Event)
      → ¬ MakesNext command honest operations before made (length world.sent) next)
      → IsStuck command honest operations before made world
  is_refused : (event : Event)
      → MakesNext command honest operations before made (length world.sent) (Some event)
      → ¬ IsAdmitted world event → IsStuck command honest operations before made world

-- why a script that begins in a world is refused: its first commands were played, and the next one
-- cannot go on
pub record IsRefusedFrom (begin : WorldState) (script : Script) : Type 0 where
  pub first : List Command
  pub command : Command
  pub later : List Command
  pub commands : script.commands.items ≡ first ++ command ∷ later
  pub before : List Event
  pub made : List Event
  pub old : WorldState
  pub world : WorldState
  pub played : HasPlayed script.honest begin first before old
  pub making : HasMade command script.honest old before made world
  pub stuck : IsStuck command script.honest old.operations before made world

abbrev pub IsRefused : Script → Type 0
IsRefused script = IsRefusedFrom (first_world script) script
