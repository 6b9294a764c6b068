use Rattle.std.proofs.Common.{subst}
use Rattle.checker.specs.Right.{IsRight}
use Rattle.checker.proofs.Keeping.{right_of}
use Rattle.checker.proofs.check.Check.status.Goals as goal

pub returns-clause-right : goal.returns-clause-right
returns-clause-right c =
    subst IsRight c.self.view_is (right_of c.self.inside.machine c.self.inside.servers.items c.self.inside.status c.self.invariant.0 c.self.invariant.1 c.len.ensures.right)
