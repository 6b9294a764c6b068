-- Lines that are no script: which line is at fault.
use Rattle.std.specs.Prelude.{◌≡◌, ◌+◌, ◌≤◌, ℕ, List, [], ◌∷◌, ◌++◌, length, false, true, drop}
use Rattle.std.specs.Prelude.{⊤}
use Rattle.world_script.specs.declared.command.Kind.{Kind}
use Rattle.world_script.specs.declared.command.Command.{Command}
use Rattle.world_script.specs.Script.{Reads, Spells, SpellsNodes, SpellsParts, is_skipped}
use Rattle.world_script.specs.Script.{words_of}

-- These words name no nodes.
abbrev pub NameNoNodes : List (List ℕ) → Type 0
NameNoNodes words = (honest : ℕ) → (liars : List Kind) → SpellsNodes honest liars words → ⊥

-- These words spell no command.
abbrev pub SpellNoCommand : List (List ℕ) → Type 0
SpellNoCommand words = (command : Command) → Spells command words → ⊥

-- Each of these lines is skipped.
abbrev pub AreSkipped : List (List ℕ) → Type 0
AreSkipped [] = ⊤
AreSkipped (line ∷ rest) = (is_skipped line ≡ true) × AreSkipped rest

-- Why lines are no script, and the number, from 1 on, of the line at fault: no line says anything;
-- or the first that does names no nodes; or the lines before one spell a script, and it spells no
-- command.
pub data IsNoScript : List (List ℕ) → ℕ → Type 0 where
  says_nothing : {lines : List (List ℕ)} → AreSkipped lines → IsNoScript lines 1
  names_no_nodes : (before : List (List ℕ)) → (line : List ℕ) → (rest : List (List ℕ))
      → AreSkipped before → is_skipped line ≡ false → NameNoNodes (words_of line)
      → IsNoScript (before ++ line ∷ rest) (length before + 1)
  spells_no_command : (before : List (List ℕ)) → (line : List ℕ) → (rest : List (List ℕ))
      → (honest : ℕ) → (liars : List Kind) → (commands : List Command)
      → SpellsParts before honest liars commands → is_skipped line ≡ false
      → SpellNoCommand (words_of line) → IsNoScript (before ++ line ∷ rest) (length before + 1)

-- ---- a word of private clauses

-- The line of this number, from 1 on, spells no command, and those before it do from this one on.
pub record FailsToRead (from : ℕ) (lines : List (List ℕ)) (number : ℕ) : Type 0 where
  pub before : List (List ℕ)
  pub line : List ℕ
  pub rest : List (List ℕ)
  pub commands : List Command
  pub parts : lines ≡ before ++ line ∷ rest
  pub number_is : number ≡ length before + 1
  pub after : from ≤ length before
  pub reads : Reads (drop from before) commands
  pub told : is_skipped line ≡ false
  pub none : SpellNoCommand (words_of line)
