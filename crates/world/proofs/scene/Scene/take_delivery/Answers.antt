use Rattle.std.proofs.Common.{refl, ◌<◌, length, rules}
use Rattle.world_operations.proofs.Positions.{get_below}
use Rattle.world.proofs.Preserving.{preserves_quiet}
use Rattle.world.proofs.scene.Scene.take_delivery.Goals as goal

pub returns-in-Ok-clause-taken : goal.returns-in-Ok-clause-taken
returns-in-Ok-clause-taken c =
    let low : c.args.position < length c.args.self.now.sent.items = search rules in
    let own = get_below c.args.self.now.sent.items c.args.position low in
    (low, (own.0, own.1, c.in-Ok.ensures.ok own.0 own.1))

pub returns-then-position-len-clause-keeps : goal.returns-then-position-len-clause-keeps
returns-then-position-len-clause-keeps c = preserves_quiet _ _ refl refl refl refl
