use Rattle.std.proofs.Common.{subst}
use Rattle.download_file.specs.Right.{IsFile}
use Rattle.download_file.proofs.file.PartialFile.awaits_row.Goals as goal

pub returns-in_default-clause-right : goal.returns-in_default-clause-right
returns-in_default-clause-right c = subst IsFile c.self.view_is c.self.invariant.0

pub returns-then-wants_row-clause-right : goal.returns-then-wants_row-clause-right
returns-then-wants_row-clause-right c = subst IsFile c.self.view_is c.self.invariant.0

pub returns-else-wants_row-clause-right : goal.returns-else-wants_row-clause-right
returns-else-wants_row-clause-right c = subst IsFile c.self.view_is c.self.invariant.0
