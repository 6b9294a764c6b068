use Rattle.std.proofs.Common.{arith, ◌≡◌, ◌∙◌, ◌++◌, [], Ok, ap, append-nil, map, subst}
use Rattle.std.proofs.lemmas.List.{nil_from_length}
use Rattle.grid_words.specs.Builds.{MayHaveRules}
use Rattle.grid_words.proofs.Gathered.{all_have}
use Rattle.grid_words.proofs.commands.gathered.Goals as goal

pub returns : goal.returns
returns c =
    let rest = c.loop-argument.argument-iterator.rest in
    let count = rest.ok.0 in
    let end = c.in-None.ensures.steps.0 in
    let none : rest.items ≡ [] = nil_from_length rest.items (omega (arith, count, end)) in
    let all : c.args.arguments.items ≡ map Ok c.loop-argument.gathered.items =
    c.loop-argument.invariant ∙ ap (λ left. map Ok c.loop-argument.gathered.items ++ left) none
    ∙ append-nil _ in
    λ rules have. all_have _ rules c.loop-argument.gathered.items
    (subst (MayHaveRules rules) all have)
