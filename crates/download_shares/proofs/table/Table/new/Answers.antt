use Rattle.download_shares.proofs.Tables.{empty_right}
use Rattle.download_shares.proofs.table.Table.new.Goals as goal

pub invariant_of-result : goal.invariant_of-result
invariant_of-result c = let k = empty_right c.loop.numbers.items c.loop.invariant.0 in rw c.new-2.ensures.items (k.right, k.count)

pub returns-clause-right : goal.returns-clause-right
returns-clause-right c = (invariant_of-result c).0
