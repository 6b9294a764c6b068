use Rattle.download_shares.specs.Choice.{NoneIsFreeBefore}
use Rattle.download_shares.proofs.table.Table.choose.Given as goal

abbrev pub invariant-loop-number : goal.invariant-loop-number
invariant-loop-number l = NoneIsFreeBefore l.self l.number-index
