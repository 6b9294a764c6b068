use Rattle.std.proofs.Common.{subst}
use Rattle.checker.specs.Book.{IsKept}
use Rattle.checker.specs.declared.status.CheckStatus.{CheckStatus}
use Rattle.checker.proofs.FoundLemmas.{done_of}
use Rattle.checker.proofs.check.Check.good_shares.Goals as goal

pub good_shares_of-requires : goal.good_shares_of-requires
good_shares_of-requires c = record { done = done_of c.self.inside.machine (subst (λ (s : CheckStatus). IsKept c.self.inside.machine s) c.in-Done.is c.self.invariant.0); keeps = c.if-not-self.false }
