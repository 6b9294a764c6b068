use Rattle.std.proofs.Common.{ℕ, List, Option, is_some, nat_eq, ap, sym, ◌∙◌}
use Rattle.std.specs.HashMap.{get}
use Rattle.merkle.specs.Partial.{PartialState, known_at}
use Rattle.merkle.proofs.StateLemmas.{known_at-state}
use Rattle.merkle.proofs.partial.Partial.knows.Goals as goal

pub returns : goal.returns
returns c =
    let p = c.self.inside in
    c.is_known.ensures
    ∙ ap (λ (o : Option (List ℕ)). is_some o)
    (sym (known_at-state p.root p.padded (get nat_eq p.nodes) c.self.invariant.2 c.args.number)
    ∙ ap (λ (s : PartialState). known_at s c.args.number) c.self.view_is)
