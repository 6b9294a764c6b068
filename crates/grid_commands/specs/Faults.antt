-- Which fault the refusal of a script becomes, and what each fault of a text says.
use Rattle.std.specs.Prelude.{ℕ, List, ⊤}
use Rattle.grid_faults.specs.declared.fault.Fault.{Fault}
use Rattle.grid_faults.specs.declared.fault.Fault.TheVariants as faults
use Rattle.world_script.specs.WorldError.{WorldError}
use Rattle.world_script.specs.WorldError as worlds
use Rattle.world_script.specs.declared.command.Script.{Script}
use Rattle.world_script.specs.declared.error.ScriptError.{ScriptError}
use Rattle.world_script.specs.declared.error.ScriptError.TheVariants as scripts
use Rattle.world_script.specs.Refused.{IsNoScript}
use Rattle.world_script.specs.Playing.{IsRefused}
use Rattle.grid_commands.specs.Texts.{AreRefused, SpellNoScript}

-- the fault that a script's refusal becomes
abbrev pub fault_of_script : ScriptError → Fault
fault_of_script scripts.OutOfMemory = faults.OutOfMemory
fault_of_script (scripts.BadScript line) = faults.BadScript line

-- the fault that the refusal of a script's world becomes
abbrev pub fault_of_world : WorldError → Fault
fault_of_world worlds.OutOfMemory = faults.OutOfMemory
fault_of_world worlds.BadEvent = faults.BadEvent
fault_of_world worlds.Stopped = faults.Stopped

-- What a fault says of the lines of a text: the line of this number is the first that is at fault,
-- and they spell no script; or they spell one that its world refuses. There is no other fault but
-- that of memory.
abbrev pub IsFaultOf : List (List ℕ) → Fault → Type 0
IsFaultOf lines faults.OutOfMemory = ⊤
IsFaultOf lines (faults.BadScript line) = IsNoScript lines line × SpellNoScript lines
IsFaultOf lines faults.BadEvent = AreRefused lines
IsFaultOf lines fault = ⊥

-- The same of a script, for a private clause.
abbrev pub IsWorldFault : Script → Fault → Type 0
IsWorldFault script faults.OutOfMemory = ⊤
IsWorldFault script faults.BadEvent = IsRefused script
IsWorldFault script fault = ⊥
