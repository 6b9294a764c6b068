use Rattle.std.proofs.Common.{subst}
use Rattle.checker.specs.Book.{IsKept}
use Rattle.checker.specs.declared.status.CheckStatus.{CheckStatus}
use Rattle.checker.proofs.FoundLemmas.{done_of}
use Rattle.checker.proofs.check.Check.report.Goals as goal

pub report_of-requires : goal.report_of-requires
report_of-requires c = record { done = done_of c.self.inside.machine (subst (λ (s : CheckStatus). IsKept c.self.inside.machine s) c.in-Done.is c.self.invariant.0) }
