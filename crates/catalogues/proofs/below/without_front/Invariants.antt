use Rattle.std.proofs.Common.{◌≡◌, ℕ, List, ◌++◌, length}
use Rattle.catalogues.specs.Below.{IsLeading, IsBelowBehind}
use Rattle.catalogues.specs.Patterns.{behind_front}
use Rattle.catalogues.proofs.below.without_front.Given as goal

abbrev pub invariant-loop-after : goal.invariant-loop-after
invariant-loop-after l = record {
  front : (front : List ℕ) × (IsLeading front × (l.fn.name ≡ front ++ l.rest));
  only : (front rest : List ℕ) → IsBelowBehind l.fn.name front rest → (left : List ℕ) × IsBelowBehind l.rest left rest;
  same : behind_front l.rest ≡ behind_front l.fn.name;
}

abbrev pub decreases-loop-after : goal.decreases-loop-after
decreases-loop-after l = length l.rest
