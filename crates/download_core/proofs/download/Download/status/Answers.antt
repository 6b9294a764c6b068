use Rattle.std.proofs.Common.{subst}
use Rattle.download_core.specs.Right.{IsRight}
use Rattle.download_core.proofs.EndLemmas.{right_of}
use Rattle.download_core.proofs.download.Download.status.Goals as goal

pub returns-clause-right : goal.returns-clause-right
returns-clause-right c = subst IsRight c.self.view_is (right_of c.self.inside.machine c.self.inside.servers.items c.self.inside.status c.self.invariant c.know_right.ensures.asks c.know_right.ensures.once c.know_right.ensures.recorded c.know_right.ensures.file)
