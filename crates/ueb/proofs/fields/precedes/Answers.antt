use Rattle.ueb.proofs.Order.{precedes_tested}
use Rattle.ueb.proofs.fields.precedes.Goals as goal

pub returns : goal.returns
returns c = precedes_tested c.args.before.now c.args.key.now c.lt.result c.lt.ensures
