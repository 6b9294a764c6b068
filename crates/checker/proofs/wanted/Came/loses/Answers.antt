use Rattle.std.proofs.Common.{inl, inr, true≢false}
use Rattle.checker.proofs.wanted.Came.loses.Goals as goal

pub returns-in-Nothing-clause-yes : goal.returns-in-Nothing-clause-yes
returns-in-Nothing-clause-yes c = λ _. inr c.in-Nothing.is

pub returns-in-Nothing-clause-no : goal.returns-in-Nothing-clause-no
returns-in-Nothing-clause-no c = λ e. absurd (true≢false e)

pub returns-in_default-clause-yes : goal.returns-in_default-clause-yes
returns-in_default-clause-yes c = λ e. inl e

pub returns-in_default-clause-no : goal.returns-in_default-clause-no
returns-in_default-clause-no c = λ e. (e, c.in_default.not-Nothing)
