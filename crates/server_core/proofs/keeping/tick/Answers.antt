use Rattle.std.proofs.Common.{ap}
use Rattle.server_core.specs.Sound.{over}
use Rattle.server_core.proofs.Keeps.{ticks_keep}
use Rattle.server_core.proofs.Stays.{ticks_leave_closed}
use Rattle.server_core.proofs.keeping.tick.Goals as goal

pub returns-clause-ticks : goal.returns-clause-ticks
returns-clause-ticks g c = record {
  after = record { store = ap g.S.Keeping.shelf c.tick.ensures.after.store; buckets = c.tick.ensures.after.buckets };
  clock = c.tick.ensures.clock;
  terms = record { capacity = c.tick.ensures.terms.capacity; readonly = c.tick.ensures.terms.readonly };
}

pub returns-clause-stays : goal.returns-clause-stays
returns-clause-stays g c = ticks_leave_closed (over g.S.Keeping.shelf c.args.server.now) (over g.S.Keeping.shelf c.tick.new.self) c.args.now (returns-clause-ticks g c)

pub returns-clause-keeps : goal.returns-clause-keeps
returns-clause-keeps g c = λ s. ticks_keep (over g.S.Keeping.shelf c.args.server.now) (over g.S.Keeping.shelf c.tick.new.self) c.args.now s (returns-clause-ticks g c)
