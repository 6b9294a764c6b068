use Rattle.std.proofs.Common.{take}
use Rattle.download_shares.specs.Choice.{Chooses}
use Rattle.download_shares.proofs.table.Table.choose_among.Given as goal

-- the choice among those before this one
abbrev pub invariant-loop-position : goal.invariant-loop-position
invariant-loop-position l = Chooses l.self (take l.position-index l.positions) l.chosen
