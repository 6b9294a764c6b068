use Rattle.std.proofs.Common.{◌-◌, ◌/◌, ap, arith}
use Rattle.share_layout.specs.Geometry.{segment_count}
use Rattle.download_parts.specs.Level.{row_of, tree_height}
use Rattle.download_parts.specs.declared.level.Level.{Level}
use Rattle.download_parts.proofs.NumberLemmas.{group_begins}
use Rattle.download_parts.proofs.PartLemmas.{above_holds, above_there, same_node}
use Rattle.download_parts.proofs.plan.Plan.piece_above.Goals as goal

pub overflow_sub-result : goal.overflow_sub-result
overflow_sub-result c =
    let p = c.args.self.now in
    let m = tree_height p.geometry in
    let node = same_node p.geometry c.args.level c.args.segment _ _ _ c.height.ensures.value (ap (λ (l : Level). l.row) c.level-found.ensures.value) c.first_node-node.ensures in
    let first = ap (λ (l : Level). l.first) c.level-found.ensures.value in
    omega (
      arith,
      node,
      first,
      group_begins m (row_of m c.args.level) p.first p.end (segment_count p.geometry) c.args.segment c.requires.from c.requires.before p.range.within,
    )

pub returns-clause-piece : goal.returns-clause-piece
returns-clause-piece c =
    let p = c.args.self.now in
    let node = same_node p.geometry c.args.level c.args.segment _ _ _ c.height.ensures.value (ap (λ (l : Level). l.row) c.level-found.ensures.value) c.first_node-node.ensures in
    let first = ap (λ (l : Level). l.first) c.level-found.ensures.value in
    record {
      level = c.requires.there;
      index = above_there p.geometry p.first p.end c.args.level c.args.segment p.range c.requires.from c.requires.before _ (λ i. node i / 1024 - first i / 1024);
    }

pub returns-clause-holds : goal.returns-clause-holds
returns-clause-holds c =
    let p = c.args.self.now in
    let node = same_node p.geometry c.args.level c.args.segment _ _ _ c.height.ensures.value (ap (λ (l : Level). l.row) c.level-found.ensures.value) c.first_node-node.ensures in
    let first = ap (λ (l : Level). l.first) c.level-found.ensures.value in
    above_holds p.geometry p.first p.end c.args.level c.args.segment p.range c.requires.from c.requires.before _ (λ i. node i / 1024 - first i / 1024)
