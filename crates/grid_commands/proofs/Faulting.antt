-- What the faults of a text say.
use Rattle.std.proofs.Common.{◌≡◌, ℕ, List, refl, IfErr, IfOk, Result, Ok, Err}
use Rattle.grid_faults.specs.declared.fault.Fault.{Fault}
use Rattle.grid_faults.specs.declared.fault.Fault.TheVariants as faults
use Rattle.world_script.specs.WorldError.{WorldError}
use Rattle.world_script.specs.WorldError as worlds
use Rattle.world_script.specs.declared.command.Script.{Script}
use Rattle.world_script.specs.declared.error.ScriptError.{ScriptError}
use Rattle.world_script.specs.declared.error.ScriptError.TheVariants as scripts
use Rattle.world_script.specs.Refused.{IsNoScript}
use Rattle.world_script.specs.Script.{SpellsScript}
use Rattle.world_script.specs.Playing.{IsEnding, IsRefused}
use Rattle.world_script.specs.declared.ending.Ending.{Ending}
use Rattle.grid_commands.specs.Faults.{IsFaultOf, IsWorldFault, fault_of_script, fault_of_world}
use Rattle.grid_commands.specs.Texts.{IsEndOf, SpellNoScript}

-- of a world's refusal
pub world_fault : (script : Script) (e : WorldError) → (e ≡ worlds.BadEvent → IsRefused script)
    → (e ≡ worlds.Stopped → ⊥) → IsWorldFault script (fault_of_world e)
world_fault script worlds.OutOfMemory refused going = tt
world_fault script worlds.BadEvent refused going = refused refl
world_fault script worlds.Stopped refused going = absurd (going refl)

-- of a script's refusal
pub script_fault : (lines : List (List ℕ)) (e : ScriptError)
    → ((line : ℕ) → e ≡ scripts.BadScript line → IsNoScript lines line)
    → ((line : ℕ) → e ≡ scripts.BadScript line → SpellNoScript lines)
    → IsFaultOf lines (fault_of_script e)
script_fault lines scripts.OutOfMemory refused none = tt
script_fault lines (scripts.BadScript line) refused none = (refused line refl, none line refl)

-- of a script that lines spell
pub spelled_fault : (lines : List (List ℕ)) (script : Script) (f : Fault)
    → SpellsScript lines script → IsWorldFault script f → IsFaultOf lines f
spelled_fault lines script faults.OutOfMemory spells is = tt
spelled_fault lines script faults.BadEvent spells is = (script, spells, is)
spelled_fault lines script faults.BadParameters spells is = is
spelled_fault lines script (faults.Cap e) spells is = is
spelled_fault lines script faults.TooLarge spells is = is
spelled_fault lines script faults.TooManySegments spells is = is
spelled_fault lines script (faults.Unhappy a b) spells is = is
spelled_fault lines script faults.NotEnoughShares spells is = is
spelled_fault lines script faults.Inconsistent spells is = is
spelled_fault lines script faults.BadRange spells is = is
spelled_fault lines script faults.SourceChanged spells is = is
spelled_fault lines script faults.SourceFault spells is = is
spelled_fault lines script faults.Stopped spells is = is
spelled_fault lines script (faults.File p _) spells is = is
spelled_fault lines script (faults.Socket e) spells is = is
spelled_fault lines script faults.TurnLimit spells is = is
spelled_fault lines script (faults.BadScript line) spells is = absurd is
spelled_fault lines script faults.NeedsReadCap spells is = is
spelled_fault lines script faults.AlreadyGrid spells is = is
spelled_fault lines script (faults.SameFolder first second) spells is = is
spelled_fault lines script (faults.OtherMark path) spells is = is
spelled_fault lines script (faults.BadMark path) spells is = is
spelled_fault lines script faults.Output spells is = is
spelled_fault lines script (faults.NoServers path) spells is = is
spelled_fault lines script (faults.UnknownGrid path) spells is = is
spelled_fault lines script (faults.NotEmpty path) spells is = is
spelled_fault lines script (faults.InUse path) spells is = is

-- a run of a script that lines spell is one of the lines
pub spelled_refusal : (lines : List (List ℕ)) (script : Script) (r : Result Ending Fault)
    → SpellsScript lines script → IfErr r (IsWorldFault script) → IfErr r (IsFaultOf lines)
spelled_refusal lines script (Ok ending) spells is = is
spelled_refusal lines script (Err f) spells is = spelled_fault lines script f spells is

pub spelled_end : (lines : List (List ℕ)) (script : Script) (r : Result Ending Fault)
    → SpellsScript lines script → IfOk r (IsEnding script) → IfOk r (IsEndOf lines)
spelled_end lines script (Ok ending) spells is = (script, spells, is)
spelled_end lines script (Err f) spells is = is
