-- The shares that servers hold, and what was asked of each.
use Rattle.std.specs.Prelude.{ℕ, List, Option}
use Rattle.request_record.specs.Record.{RequestsState}
use Rattle.download_shares.specs.declared.holding.Blame.{Blame}
use Rattle.download_shares.specs.declared.holding.Holding.{Holding}

-- the positions of the holdings of a share number that are left, and of the one that is read
pub record NumberState : Type 0 where
  pub left : List ℕ
  pub reading : Option ℕ

-- the holdings in the order in which they were told, and the share numbers that count, from 0 on
pub record TableState : Type 0 where
  pub holdings : List Holding
  pub numbers : List NumberState

-- the value of a table with these fields
abbrev pub table_state : List Holding → List NumberState → TableState
table_state holdings numbers = record { holdings = holdings; numbers = numbers }

-- The first requests, `servers` of them, ask which shares a server holds, and each further one asks
-- for bytes of a share: `owners` has its position among the holdings.
pub record HoldingsState : Type 0 where
  pub requests : RequestsState
  pub servers : ℕ
  pub table : TableState
  pub owners : List ℕ
  pub blamed : List Blame

-- the value of holdings with these fields
abbrev pub holdings_state : RequestsState → ℕ → TableState → List ℕ → List Blame → HoldingsState
holdings_state requests servers table owners blamed = record {
  requests = requests;
  servers = servers;
  table = table;
  owners = owners;
  blamed = blamed;
}
