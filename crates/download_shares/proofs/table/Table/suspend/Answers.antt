use Rattle.std.proofs.Common.{◌<◌, length, sym, subst}
use Rattle.std.specs.Prelude.{slice_set}
use Rattle.download_shares.specs.HoldingState.{TableState, table_state}
use Rattle.download_shares.specs.Table.{Suspends}
use Rattle.download_shares.proofs.Tables.{suspended_by, suspends_by}
use Rattle.download_shares.proofs.Fields.{seen_table}
use Rattle.download_shares.proofs.table.Table.suspend.Goals as goal

pub invariant_of-self : goal.invariant_of-self
invariant_of-self c =
    let lt : c.args.position < length c.self.inside.holdings.items = subst (λ (t : TableState). c.args.position < length t.holdings) (sym c.self.view_is) c.requires in
    (suspended_by (seen_table c.self.inside) c.args.position c.index_mut.result.now c.args.suspended c.self.invariant.0 lt c.index_mut.ensures.value, c.self.invariant.1)

pub returns-clause-suspends : goal.returns-clause-suspends
returns-clause-suspends c =
    let lt : c.args.position < length c.self.inside.holdings.items = subst (λ (t : TableState). c.args.position < length t.holdings) (sym c.self.view_is) c.requires in
    subst (λ (t : TableState). Suspends c.args.suspended c.args.position t (table_state (slice_set c.self.inside.holdings.items c.args.position (record c.index_mut.result.now { suspended = c.args.suspended })) c.self.inside.numbers.items)) c.self.view_is
    (suspends_by (seen_table c.self.inside) c.args.position c.index_mut.result.now c.args.suspended lt c.index_mut.ensures.value)

pub returns-clause-right : goal.returns-clause-right
returns-clause-right c = (invariant_of-self c).0
