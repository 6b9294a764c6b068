use mir.Val.{bool_byte}
use Rattle.std.proofs.Common.{◌<◌, length, false, refl, sym, subst, ap, ◌∙◌, arith}
use Rattle.std.specs.Prelude.{slice_set}
use Rattle.download_shares.specs.HoldingState.{TableState, table_state}
use Rattle.download_shares.specs.Table.{Retires}
use Rattle.download_shares.proofs.Tables.{count_bound, count_by_index, retired_by, retires_by}
use Rattle.download_shares.proofs.Fields.{seen_table}
use Rattle.download_shares.proofs.table.Table.retire.Goals as goal

pub overflow_sub-self : goal.overflow_sub-self
overflow_sub-self c =
    let lt : c.args.position < length c.self.inside.holdings.items = subst (λ (t : TableState). c.args.position < length t.holdings) (sym c.self.view_is) c.requires in
    let k = count_bound (seen_table c.self.inside) c.args.position c.from.result _ _ c.self.invariant.0 lt c.index_mut-holding.ensures.value c.from.ensures c.index_mut-number.ensures.value in
    rw (c.from-ended.ensures, c.reads.ensures, c.self.invariant.1) k

pub invariant_of-self : goal.invariant_of-self
invariant_of-self c =
    let lt : c.args.position < length c.self.inside.holdings.items = subst (λ (t : TableState). c.args.position < length t.holdings) (sym c.self.view_is) c.requires in
    let k = count_by_index (seen_table c.self.inside) c.args.position c.from.result _ _ c.remove.new.self c.self.invariant.0 lt c.index_mut-holding.ensures.value c.from.ensures c.index_mut-number.ensures.value (rw c.remove.ensures refl) in
    let b = c.from-ended.ensures ∙ ap bool_byte c.reads.ensures in
    let v = c.self.invariant.1 in
    (retired_by (seen_table c.self.inside) c.args.position c.from.result _ _ c.remove.new.self c.self.invariant.0 lt c.index_mut-holding.ensures.value c.from.ensures c.index_mut-number.ensures.value c.remove.ensures, omega (arith, k, b, v))

pub returns-clause-retires : goal.returns-clause-retires
returns-clause-retires c =
    let lt : c.args.position < length c.self.inside.holdings.items = subst (λ (t : TableState). c.args.position < length t.holdings) (sym c.self.view_is) c.requires in
    subst (λ (t : TableState). Retires c.args.position t (table_state (slice_set c.self.inside.holdings.items c.args.position (record c.index_mut-holding.result.now { left = false })) (slice_set c.self.inside.numbers.items c.from.result c.remove.new.self))) c.self.view_is
    (retires_by (seen_table c.self.inside) c.args.position c.from.result _ _ c.remove.new.self c.self.invariant.0 lt c.index_mut-holding.ensures.value c.from.ensures c.index_mut-number.ensures.value c.remove.ensures)

pub returns-clause-right : goal.returns-clause-right
returns-clause-right c = (invariant_of-self c).0
