use Rattle.std.proofs.Common.{subst}
use Rattle.download_parts.specs.Offers.{nodes_offered}
use Rattle.download_segments.specs.State.{HandoutState, TreesGrow}
use Rattle.download_segments.proofs.TreeLemmas.{grown_ciphertext}
use Rattle.download_segments.proofs.handout.Handout.take_nodes.Goals as goal

pub returns-clause-grow : goal.returns-clause-grow
returns-clause-grow c =
    let e = c.take_nodes.ensures in
    subst (λ (h : HandoutState). TreesGrow h.trees c.take_nodes.new.self) c.self.view_is
    (grown_ciphertext c.take_nodes.result c.self.inside.trees c.take_nodes.new.self (nodes_offered c.args.nodes.now c.args.bytes.now) e.taken e.other e.unchanged)
