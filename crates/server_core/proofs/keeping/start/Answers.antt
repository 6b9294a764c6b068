use Rattle.std.proofs.Common.{subst, sym}
use Rattle.server_core.specs.ServerState.{ServerState}
use Rattle.server_core.specs.Sound.{over, IsSound}
use Rattle.server_core.proofs.Keeps.{starts_sound}
use Rattle.server_core.proofs.keeping.start.Goals as goal

pub returns-clause-sound : goal.returns-clause-sound
returns-clause-sound g c = λ digests.
    subst (λ (s : ServerState _). IsSound (over g.S.Keeping.shelf s)) (sym c.start.ensures)
    (starts_sound (g.S.Keeping.shelf c.args.store) c.args.capacity c.args.readonly (record { rising = c.know_order.ensures; digests = digests }))
