use Rattle.std.proofs.Common.{subst, sym}
use Rattle.share_layout.specs.Geometry.{segment_count}
use Rattle.download_parts.specs.declared.part.Part.TheVariants.{ShareHashes}
use Rattle.download_parts.specs.Trees.{IsBlockTree}
use Rattle.download_supply.specs.Supply.{SupplyState}
use Rattle.download_supply.specs.Taking.{IsDue}
use Rattle.download_supply.proofs.TakingLemmas.{tree_taken}
use Rattle.download_supply.proofs.supply.Supply.take_tree.Goals as goal

pub invariant_of-self : goal.invariant_of-self
invariant_of-self c =
    let due = subst (λ (s : SupplyState). IsDue s ShareHashes) (sym c.self.view_is) c.requires.due in
    let leads = subst (λ (s : SupplyState). IsBlockTree c.args.tree (segment_count s.geometry)) (sym c.self.view_is) c.requires.leads in
    rw c.pass.ensures (tree_taken _ c.args.tree c.self.invariant due leads)

pub returns-clause-right : goal.returns-clause-right
returns-clause-right c = invariant_of-self c
