use Rattle.std.proofs.Common.{◌≡◌, ◌∙◌, ◌<◌, List, Option, length, sym, ap, subst}
use Rattle.std.specs.Prelude.{option_map}
use Rattle.std.proofs.lemmas.List.Edits.{map_over_more}
use Rattle.served_grid.specs.Remotes.{RemoteState, ticked_remote}
use Rattle.served_grid.proofs.served.tick_each.Goals as goal

pub loop-position-preserved : goal.loop-position-preserved
loop-position-preserved g c =
    let new : c.tick_at.new.position ≡ option_map ticked_remote c.position-item.result = c.tick_at.ensures ∙ ap (option_map ticked_remote) (sym c.position-item.is) in
    let within : c.loop-position.position-index < length c.args.remotes.now.items = subst (λ (xs : List (Option (RemoteState g.row.W.Denot))). c.loop-position.position-index < length xs) c.deref_mut-position-items.ensures.value c.loop-position-test.true in
    rw new (map_over_more (option_map ticked_remote) c.args.remotes.now.items c.loop-position.position-items c.loop-position.position-index c.position-item.result within c.loop-position.invariant c.position-item.is)
