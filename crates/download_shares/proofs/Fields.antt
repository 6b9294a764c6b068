-- The fields of a table, of holdings and of beginnings, as contracts see them.
use Rattle.download_shares.specs.BeginningState.{BeginningsState, beginnings_state}
use Rattle.download_shares.specs.HoldingState.{HoldingsState, TableState, holdings_state}
use Rattle.download_shares.specs.HoldingState.{table_state}
use Rattle.download_shares.specs.declared.beginnings.Beginnings.TheInside as Beginnings
use Rattle.download_shares.specs.declared.holdings.Holdings.TheInside as Holdings
use Rattle.download_shares.specs.declared.table.Table.TheInside as Table

abbrev pub seen_table : Table.Inside → TableState
seen_table t = table_state t.holdings.items t.numbers.items

abbrev pub seen_holdings : Holdings.Inside → HoldingsState
seen_holdings s = holdings_state s.requests s.servers s.table s.owners.items s.blamed.items

abbrev pub seen_beginnings : Beginnings.Inside → BeginningsState
seen_beginnings s = beginnings_state s.holdings s.begun.items
