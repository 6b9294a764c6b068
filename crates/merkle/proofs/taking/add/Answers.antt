use Rattle.std.proofs.Common.{ℕ, List, Some, ap, sym, ◌∙◌, nat_eq}
use Rattle.std.specs.HashMap.{get}
use Rattle.merkle.specs.Partial.{padding}
use Rattle.merkle.proofs.PartialLemmas.{adds_nothing, nothing_there, same_hash}
use Rattle.merkle.proofs.taking.add.Goals as goal
use Rattle.merkle.proofs.taking.add.Goals.{in-Some+else-ne, in_default}

pub returns-else-not-contains_key-clause-adds : goal.returns-else-not-contains_key-clause-adds
returns-else-not-contains_key-clause-adds c =
    let told = get nat_eq c.args.nodes.now in
    let there = sym c.contains_key.ensures ∙ c.if-not-contains_key.false in
    elim c.match-known_node.branch [
      | in-Some+else-ne w ↦
          let same = same_hash w.in-Some.known c.args.hash.now w.ne.result w.ne.ensures w.if-ne.false in
          adds_nothing (padding c.args.padded.now) told c.args.number c.args.hash.now there
          (sym c.known_node.ensures ∙ w.in-Some.is ∙ ap (λ (x : List ℕ). Some x) same)
      | in_default w ↦ absurd (nothing_there (padding c.args.padded.now) told c.args.number there (sym c.known_node.ensures ∙ w.in_default.is))
    ]
