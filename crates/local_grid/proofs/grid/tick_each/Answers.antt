use Rattle.std.proofs.Common.{◌≡◌, ◌∙◌, ◌<◌, List, Option, length, sym, ap, subst}
use Rattle.std.proofs.lemmas.List.Edits.{map_over_more}
use Rattle.local_grid.specs.Nodes.{NodeState, ticked}
use Rattle.local_grid.proofs.grid.tick_each.Goals as goal

pub loop-position-preserved : goal.loop-position-preserved
loop-position-preserved g c =
    let new : c.tick_at.new.position ≡ ticked c.args.now c.position-item.result = c.tick_at.ensures ∙ ap (ticked c.args.now) (sym c.position-item.is) in
    let within : c.loop-position.position-index < length c.args.nodes.now.items = subst (λ (xs : List (Option (NodeState g.row.S.Denot g.row.L.Denot))). c.loop-position.position-index < length xs) c.deref_mut-position-items.ensures.value c.loop-position-test.true in
    rw new (map_over_more (ticked c.args.now) c.args.nodes.now.items c.loop-position.position-items c.loop-position.position-index c.position-item.result within c.loop-position.invariant c.position-item.is)
