-- What a get does with the file that a `-o` names.
use Rattle.std.specs.Prelude.{◌≡◌, ◌⊎◌, ℕ, Bool, List, [], ◌∷◌, ◌++◌, Option, Some, None, Result}
use Rattle.std.specs.Prelude.{IfErr, OnOk, ⊤}
use Rattle.cap_text.specs.declared.cap.Cap.{Cap}
use Rattle.grid_rules.specs.declared.range.ByteRange.{ByteRange}
use Rattle.grid_servers.specs.Grids.{GridCalls}
use Rattle.grid_telling.specs.declared.outcome.Failure.{Failure}
use Rattle.grid_words.specs.declared.words.GetWords.{GetWords}
use Rattle.grid_gets.specs.Gets.{IsBegunBy, IsBegunOf, IsGotBy, IsGotOf, UnlessWriter}

-- What is done with a file of a name. What is written was opened for this path, and held these
-- bytes; it was ended with this outcome, and held these bytes then.
pub data FileAct : Type 0 where
  opened : (path : List ℕ) → (held : Option (List ℕ)) → FileAct
  ended : (holds : Option (List ℕ)) → (outcome : Result (Unit {0}) Failure) → FileAct

-- This was done more, where it is known what was done.
abbrev pub Adds : Option (List FileAct) → Option (List FileAct) → List FileAct → Type 0
Adds None new acts = ⊤
Adds (Some done) new acts = new ≡ Some (done ++ acts)

-- A file was opened for this path and ended with this outcome, and no other. Bytes were handed to
-- it in between: all of them where the outcome is Ok, else a beginning, unless it failed itself.
pub record IsHanded (IsWhole IsBegun : Option (List ℕ) → Option (List ℕ) → Type 0)
    (path : List ℕ) (outcome : Result (Unit {0}) Failure) (old new : Option (List FileAct))
    : Type 0 where
  pub held : Option (List ℕ)
  pub holds : Option (List ℕ)
  pub acts : Adds old new (opened path held ∷ ended holds outcome ∷ [])
  pub whole : OnOk outcome (IsWhole held holds)
  pub begun : IfErr outcome (λ failure. UnlessWriter failure (IsBegun held holds))

-- Nothing was opened, or one was for this path, and ended with some outcome.
abbrev pub MayBeHanded : (Option (List ℕ) → Option (List ℕ) → Type 0)
    → (Option (List ℕ) → Option (List ℕ) → Type 0) → List ℕ → Option (List FileAct)
    → Option (List FileAct) → Type 0
MayBeHanded IsWhole IsBegun path old new = (new ≡ old)
    ⊎ ((outcome : Result (Unit {0}) Failure) × IsHanded IsWhole IsBegun path outcome old new)

-- ---- by the words of a get

-- The bytes that its words ask for were handed to a file of a path.
abbrev pub IsFileBy : {S : Type 0} → GridCalls S → GetWords → List ℕ → Result (Unit {0}) Failure
    → Option (List FileAct) → Option (List FileAct) → Type 0
IsFileBy calls words = IsHanded (IsGotBy calls words) (IsBegunBy calls words)

abbrev pub MayBeFileBy : {S : Type 0} → GridCalls S → GetWords → List ℕ → Option (List FileAct)
    → Option (List FileAct) → Type 0
MayBeFileBy calls words = MayBeHanded (IsGotBy calls words) (IsBegunBy calls words)

-- ---- of a cap

-- A range of a cap's file was handed to a file of a path, of servers of a grid that stand so.
abbrev pub IsFileOf : {S : Type 0} → GridCalls S → List ℕ → Bool → Cap → ByteRange → List ℕ
    → Result (Unit {0}) Failure → Option (List FileAct) → Option (List FileAct) → Type 0
IsFileOf calls grid kept cap range = IsHanded (IsGotOf calls grid kept cap range)
    (λ held holds. IsBegunOf calls grid kept range held holds cap)

abbrev pub MayBeFileOf : {S : Type 0} → GridCalls S → List ℕ → Bool → Cap → ByteRange → List ℕ
    → Option (List FileAct) → Option (List FileAct) → Type 0
MayBeFileOf calls grid kept cap range = MayBeHanded (IsGotOf calls grid kept cap range)
    (λ held holds. IsBegunOf calls grid kept range held holds cap)
