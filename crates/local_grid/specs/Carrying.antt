-- Bytes that go from one end of a connection to the other, piece by piece.
use Rattle.std.specs.Prelude.{◌≡◌, ◌⊎◌, ℕ, ◌≤◌, List, [], ◌∷◌, length}
use Rattle.std.specs.List.{flat_map}
use Rattle.local_grid.specs.declared.link.Way.{Way}
use Rattle.local_grid.specs.Ends.{EndsCalls}

-- A piece of at most 4,096 bytes is sent, and then as many bytes come.
pub record Passes {E : Type 0} (calls : EndsCalls E) (way : Way) (old : E)
    (piece bytes : List ℕ) (new : E) : Type 0 where
  pub most : length piece ≤ 4096
  pub between : E
  pub sends : calls.sent old way piece between
  pub comes : calls.came between way bytes new
  pub count : length bytes ≡ length piece

-- one piece after another, each with what came
abbrev pub PassesEach : {E : Type 0} → EndsCalls E → Way → E → List (List ℕ × List ℕ) → E
    → Type 0
PassesEach calls way first [] last = last ≡ first
PassesEach {E = E} calls way first (p ∷ pieces) last =
    (next : E) × Passes calls way first p.0 p.1 next × PassesEach calls way next pieces last

-- Bytes are sent, and these bytes come.
pub record Carries {E : Type 0} (calls : EndsCalls E) (way : Way) (old : E)
    (sent came : List ℕ) (new : E) : Type 0 where
  pub pieces : List (List ℕ × List ℕ)
  pub passes : PassesEach calls way old pieces new
  pub sends : sent ≡ flat_map (λ (p : List ℕ × List ℕ). p.0) pieces
  pub comes : came ≡ flat_map (λ (p : List ℕ × List ℕ). p.1) pieces

-- A call fails: the sending of a piece, or, once one was sent, the reading of what comes.
abbrev pub Fails : {E : Type 0} → EndsCalls E → Way → E → Type 0
Fails {E = E} calls way old =
    ((last : E) × calls.failed old way last)
    ⊎ ((piece : List ℕ) × (between : E) × (last : E) × calls.sent old way piece between
    × calls.failed between way last)

-- Pieces of bytes are carried, and then a call fails.
pub record Breaks {E : Type 0} (calls : EndsCalls E) (way : Way) (old : E) : Type 0 where
  pub pieces : List (List ℕ × List ℕ)
  pub last : E
  pub passes : PassesEach calls way old pieces last
  pub fails : Fails calls way last
