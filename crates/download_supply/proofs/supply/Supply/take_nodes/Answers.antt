use Rattle.std.proofs.Common.{◌≡◌, ◌∙◌, Option, IfSome, length, refl, subst, sym}
use Rattle.merkle.specs.Partial.{PartialState, Takes}
use Rattle.share_layout.specs.Geometry.{segment_count}
use Rattle.download_parts.specs.Plan.{length_of}
use Rattle.download_parts.specs.declared.part.Nodes.{Nodes}
use Rattle.download_parts.specs.declared.part.Part.TheVariants.{BlockTree}
use Rattle.download_parts.specs.Offers.{nodes_offered}
use Rattle.download_parts.specs.Trees.{IsBlockTree}
use Rattle.download_supply.specs.Supply.{SupplyState}
use Rattle.download_supply.specs.Taking.{IsDue}
use Rattle.download_supply.proofs.TakingLemmas.{nodes_taken}
use Rattle.download_supply.proofs.supply.Supply.take_nodes.Goals as goal

pub nodes-nodes-requires : goal.nodes-nodes-requires
nodes-nodes-requires c =
    let due = subst (λ (s : SupplyState). IsDue s (BlockTree c.args.piece.now)) (sym c.self.view_is) c.requires.due in
    c.self.invariant.parts (BlockTree c.args.piece.now) due.asked

pub invariant_of-self-2 : goal.invariant_of-self-2
invariant_of-self-2 c =
    let piece = c.args.piece.now in
    let bytes = c.args.bytes.now in
    let due = subst (λ (s : SupplyState). IsDue s (BlockTree piece)) (sym c.self.view_is) c.requires.due in
    let long = subst (λ (s : SupplyState). length bytes ≡ length_of s.geometry s.first s.end (BlockTree piece)) (sym c.self.view_is) c.requires.long in
    let takes = subst (λ (n : Nodes). Takes c.in-Some.tree (nodes_offered n bytes) c.take_nodes.new.self) c.nodes-nodes.ensures.value c.in_ok-take_nodes.ensures.taken in
    let was = subst (λ (o : Option PartialState). IfSome o (λ tree. IsBlockTree tree (segment_count c.self.inside.plan.geometry))) c.in-Some.is c.self.invariant.leads in
    rw c.pass.ensures
    (nodes_taken _ piece bytes c.self.invariant due c.in-Some.tree c.take_nodes.new.self c.in-Some.is long takes
    (record {
      leads = record { sound = c.in_ok-take_nodes.ensures.right; of_root = refl; leaves = c.in_ok-take_nodes.ensures.count ∙ was.leads.leaves };
      hashes = c.in_ok-take_nodes.ensures.hashes;
    }))

pub returns-clause-right : goal.returns-clause-right
returns-clause-right c = invariant_of-self-2 c
