use Rattle.std.proofs.Common.{List, ℕ, OnOk, ◌∙◌, subst}
use Rattle.merkle.specs.Partial.{Takes}
use Rattle.download_parts.proofs.TreeLemmas.{known_nodes}
use Rattle.download_parts.proofs.partial.offer_nodes.Goals as goal

pub returns-clause-hashes : goal.returns-clause-hashes
returns-clause-hashes c =
    let e = c.offer.ensures in
    known_nodes c.offer.result c.args.tree.now c.offer.new.tree c.args.nodes.now c.args.bytes.now
    (subst (λ (offers : List (ℕ × List ℕ)). OnOk c.offer.result (Takes c.args.tree.now offers c.offer.new.tree)) (c.deref.ensures.value ∙ c.in_ok-offers.ensures) e.taken)
    e.unchanged
