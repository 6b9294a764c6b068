use Rattle.std.proofs.Common.{◌≡◌, ap, sym, subst}
use Rattle.share_store.specs.Shelf.{Shelf}
use Rattle.server_core.specs.ServerState.{ServerState}
use Rattle.server_core.specs.Sound.{StaysSound, over}
use Rattle.server_core.proofs.Ended.{forgetting_keeps}
use Rattle.server_core.proofs.keeping.forget.Goals as goal

pub returns-clause-forgets : goal.returns-clause-forgets
returns-clause-forgets g c = ap (over g.S.Keeping.shelf) c.forget.ensures

pub returns-clause-keeps : goal.returns-clause-keeps
returns-clause-keeps g c = λ s.
    subst (λ (m : ServerState Shelf). StaysSound (over g.S.Keeping.shelf c.args.server.now) m) (sym (returns-clause-forgets g c))
    (forgetting_keeps (over g.S.Keeping.shelf c.args.server.now) c.args.client s)
