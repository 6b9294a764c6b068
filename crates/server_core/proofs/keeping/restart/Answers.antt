use Rattle.server_core.specs.Sound.{over}
use Rattle.server_core.proofs.Keeps.{restarts_keep}
use Rattle.server_core.proofs.Stays.{restarts_leave_closed}
use Rattle.server_core.proofs.keeping.restart.Goals as goal

pub returns-clause-restarts : goal.returns-clause-restarts
returns-clause-restarts g c = record {
  store = g.met.S.Keeping.kept.restarts c.args.server.now.store c.restart.new.self.store c.restart.ensures.store;
  buckets = c.restart.ensures.buckets;
  clock = c.restart.ensures.clock;
  terms = record { capacity = c.restart.ensures.terms.capacity; readonly = c.restart.ensures.terms.readonly };
}

pub returns-clause-stays : goal.returns-clause-stays
returns-clause-stays g c = restarts_leave_closed (over g.S.Keeping.shelf c.args.server.now) (over g.S.Keeping.shelf c.restart.new.self) (returns-clause-restarts g c)

pub returns-clause-keeps : goal.returns-clause-keeps
returns-clause-keeps g c = λ s. restarts_keep (over g.S.Keeping.shelf c.args.server.now) (over g.S.Keeping.shelf c.restart.new.self) s (returns-clause-restarts g c)
