use Rattle.std.proofs.Common.{ℕ, ◌+◌, ◌≤◌, List, Bor, length, map, arith, rules}
use Rattle.std.specs.Prelude.{IsTrue}
use Rattle.std.proofs.lemmas.List.{length-map}
use Rattle.world_script.proofs.Naming.{nodes_of}
use Rattle.world_script.proofs.nodes.nodes_of.Goals as goal

pub returns-then-not-are_few-clause-none : goal.returns-then-not-are_few-clause-none
returns-then-not-are_few-clause-none c = λ refused other liars spells.
    let now : Bor (List ℕ) → List ℕ = λ w. w.now in
    let few : (1 ≤ c.args.honest) × (c.args.honest + length (map now c.args.kinds.now) ≤ 256) = nodes_of c.args.honest other (map now c.args.kinds.now) liars c.ranges.honest.fits spells in
    let yes : IsTrue c.are_few.result = c.are_few.ensures.1 (few.0, omega (arith, few.1, length-map c.args.kinds.now now)) in
    search rules
