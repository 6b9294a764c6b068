use Rattle.std.proofs.Common.{◌≡◌, ℕ, ◌<◌, Some}
use Rattle.std.specs.Prelude.{slice_get}
use Rattle.checker.specs.declared.wanted.Wanted.{Wanted}
use Rattle.checker.proofs.offers.Offer.piece_at.Given as goal

-- none of those before this one is asked for by that request
abbrev pub invariant-loop-i : goal.invariant-loop-i
invariant-loop-i l = (k : ℕ) (w : Wanted) → k < l.i → slice_get l.self.wanted.items k ≡ Some w → w.position ≡ l.position → ⊥
