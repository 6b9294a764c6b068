use Rattle.std.proofs.Common.{ℕ, ◌<◌, List, [], ◌∷◌, Contains, refl, lit<}
use Rattle.std.proofs.lemmas.List.Elements.{All-nil, All-cons}
use Rattle.std.specs.List.{IsDistinct}
use Rattle.placement.specs.Matching.{Pair}
use Rattle.tests_uploads.proofs.placement_tests.refused_memory_in_a_plan.Goals as goal

abbrev IsKnown : List ℕ → ℕ → Pair → Type 0
IsKnown servers n p = Contains servers p.0 × (p.1 < n)

pub place-requires-clause-distinct : goal.place-requires-clause-distinct
unfolding IsDistinct
place-requires-clause-distinct g c = ((refl, (refl, tt)), ((refl, tt), (tt, tt)))

pub place-requires-clause-known : goal.place-requires-clause-known
place-requires-clause-known g c =
    let servers : List ℕ = 9 ∷ 0 ∷ 1 ∷ [] in
    All-cons (IsKnown servers 4) (9, 0) ((0, 0) ∷ (0, 1) ∷ []) ((0, lit< tt, refl), lit< tt)
    (All-cons (IsKnown servers 4) (0, 0) ((0, 1) ∷ []) ((1, lit< tt, refl), lit< tt) (All-cons (IsKnown servers 4) (0, 1) [] ((1, lit< tt, refl), lit< tt) (All-nil (IsKnown servers 4))))
