use Rattle.std.proofs.Common.{subst}
use Rattle.download_file.specs.Right.{IsFile}
use Rattle.download_file.proofs.file.PartialFile.first_waiting.Goals as goal

pub returns-in-Some-clause-right : goal.returns-in-Some-clause-right
returns-in-Some-clause-right c = subst IsFile c.self.view_is c.self.invariant.0

pub returns-in-None-clause-right : goal.returns-in-None-clause-right
returns-in-None-clause-right c = subst IsFile c.self.view_is c.self.invariant.0
