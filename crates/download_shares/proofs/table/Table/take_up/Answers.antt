use Rattle.std.proofs.Common.{◌<◌, length, sym, subst, arith}
use Rattle.std.specs.Prelude.{slice_set}
use Rattle.download_shares.specs.HoldingState.{TableState, table_state}
use Rattle.download_shares.specs.Table.{IsFree, IsHolding, TakesUp}
use Rattle.download_shares.specs.declared.holding.Holding.{Holding}
use Rattle.std.proofs.lemmas.Option.{slice_get_within}
use Rattle.download_shares.proofs.Tables.{taken_by, takes_by}
use Rattle.download_shares.proofs.Fields.{seen_table}
use Rattle.download_shares.proofs.table.Table.take_up.Goals as goal

pub invariant_of-self : goal.invariant_of-self
invariant_of-self c =
    let free : (h : Holding) × IsHolding (seen_table c.self.inside) c.args.position h × IsFree (seen_table c.self.inside) h = subst (λ (t : TableState). (h : Holding) × IsHolding t c.args.position h × IsFree t h) (sym c.self.view_is) c.requires in
    let lt : c.args.position < length c.self.inside.holdings.items = slice_get_within c.self.inside.holdings.items c.args.position free.0 free.1 in
    let k = taken_by (seen_table c.self.inside) c.args.position c.from.result _ _ c.take_up.new.self c.self.invariant.0 lt c.index-holding.ensures c.from.ensures c.index_mut.ensures.value c.take_up.ensures free.0 free.1 free.2 in
    let more = k.more in
    let v = c.self.invariant.1 in
    (k.right, omega (arith, more, v))

pub returns-clause-takes : goal.returns-clause-takes
returns-clause-takes c =
    let free : (h : Holding) × IsHolding (seen_table c.self.inside) c.args.position h × IsFree (seen_table c.self.inside) h = subst (λ (t : TableState). (h : Holding) × IsHolding t c.args.position h × IsFree t h) (sym c.self.view_is) c.requires in
    let lt : c.args.position < length c.self.inside.holdings.items = slice_get_within c.self.inside.holdings.items c.args.position free.0 free.1 in
    subst (λ (t : TableState). TakesUp c.args.position t (table_state c.self.inside.holdings.items (slice_set c.self.inside.numbers.items c.from.result c.take_up.new.self))) c.self.view_is
    (takes_by (seen_table c.self.inside) c.args.position c.from.result _ _ c.take_up.new.self c.self.invariant.0 lt c.index-holding.ensures c.from.ensures c.index_mut.ensures.value c.take_up.ensures)

pub returns-clause-right : goal.returns-clause-right
returns-clause-right c = (invariant_of-self c).0
