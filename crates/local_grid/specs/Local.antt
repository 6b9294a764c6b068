-- The servers of one process alone.
use Rattle.std.specs.Prelude.{◌≡◌, ℕ}
use Rattle.wire.specs.declared.message.Message.{Message}
use Rattle.share_store.specs.Calls.{Calls}
use Rattle.local_grid.specs.Nodes.{Carries}
use Rattle.local_grid.specs.Turns as one
use Rattle.local_grid.specs.declared.outside.Happening.{Happening}
use Rattle.local_grid.specs.declared.outside.Happening.TheVariants.{Came, Second}
use Rattle.local_grid.specs.Outside.{OutsideCalls}
use Rattle.local_grid.specs.OutsideTurns.{LoopState}

-- Nothing comes but the next tick.
abbrev pub IsNext : {S L : Type 0} → one.GridState S L → Happening → one.GridState S L → Type 0
IsNext old (Came node m) new = ⊥
IsNext old (Second second) new = (second ≡ one.later old.clock) × (new ≡ one.passed old)

abbrev pub local_calls : {S L : Type 0} → Calls S → Carries L → (L → L → Type 0)
    → OutsideCalls (one.GridState S L)
local_calls calls carries gives_up = record {
  clock = λ g. g.clock;
  handed = λ old node m answer new. one.Asks calls carries old node m answer new;
  happened = λ old happening new. IsNext old happening new;
  hand_stops = λ old node m new. one.Stops calls carries gives_up old node m new;
  wait_stops = λ old new. ⊥;
}

-- the state of the loop of one process
abbrev pub of_one : {O S L : Type 0} → LoopState O (one.GridState S L) → one.LoopState O S L
of_one s = record { operation = s.operation; grid = s.outside }
