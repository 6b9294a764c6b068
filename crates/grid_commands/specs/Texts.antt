-- How the script of a text ends.
use Rattle.std.specs.Prelude.{ℕ, List}
use Rattle.world_script.specs.declared.command.Script.{Script}
use Rattle.world_script.specs.Script.{SpellsScript}
use Rattle.world_script.specs.declared.ending.Ending.{Ending}
use Rattle.world_script.specs.Playing.{IsEnding, IsRefused}

-- The lines spell a script that ends so.
abbrev pub IsEndOf : List (List ℕ) → Ending → Type 0
IsEndOf lines ending = (script : Script) × SpellsScript lines script × IsEnding script ending

-- The lines spell a script that its world refuses.
abbrev pub AreRefused : List (List ℕ) → Type 0
AreRefused lines = (script : Script) × SpellsScript lines script × IsRefused script

-- The lines spell no script.
abbrev pub SpellNoScript : List (List ℕ) → Type 0
SpellNoScript lines = (script : Script) → ¬ SpellsScript lines script
