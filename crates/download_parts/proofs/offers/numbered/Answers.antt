use Rattle.std.proofs.Common.{◌≡◌, ◌++◌, ◌+◌, ◌∷◌, [], get_or, take, ap, sym, ◌∙◌, rules, arith}
use Rattle.merkle.specs.Tree.{node_number}
use Rattle.download_parts.specs.Offers.{offered_nodes}
use Rattle.download_parts.proofs.OfferLemmas.{offered_more}
use Rattle.download_parts.proofs.offers.numbered.Goals as goal

pub loop-hash-preserved : goal.loop-hash-preserved
loop-hash-preserved c =
    let n = c.args.nodes.now in
    let i = c.loop-hash.hash-index in
    let hashes = c.as_chunks.result.0.now in
    let number : c.node_number.result ≡ node_number n.row (n.from + i) = c.node_number.ensures.value ∙ ap (node_number n.row) c.loop-hash.invariant.position in
    let pushed : c.push.new.self.items ≡ offered_nodes n.row n.from (take i hashes) ++ (node_number n.row (n.from + i), get_or hashes i []) ∷ [] =
    search (rules, number, c.loop-hash.invariant.offers) in
    record {
      position = omega (arith, c.loop-hash.invariant.position);
      offers = pushed ∙ sym (offered_more n.row n.from hashes i (omega arith));
    }
