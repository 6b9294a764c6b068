use Rattle.std.proofs.Common.{rules}
use Rattle.request_record.proofs.requests.passed.Goals as goal

pub returns-clause-value : goal.returns-clause-value
returns-clause-value c = search rules
