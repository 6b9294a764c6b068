use Rattle.std.proofs.Common.{◌≡◌, ◌∙◌, sym, subst, ap, arith}
use Rattle.request_record.specs.Record.{RequestsState, outstanding_count}
use Rattle.download_shares.specs.HoldingState.{HoldingsState}
use Rattle.download_shares.specs.Table.{IsTable}
use Rattle.download_core.proofs.Ends.{at_end}
use Rattle.download_core.proofs.ending.why_not.Goals as goal

pub returns-else-outstanding-gt0-clause-too_few : goal.returns-else-outstanding-gt0-clause-too_few
returns-else-outstanding-gt0-clause-too_few c e =
    let bs = c.args.beginnings.now in
    let is = c.outstanding.ensures in
    let none = c.if-outstanding-gt0.false in
    let zero_is : outstanding_count c.requests.result.now.entries ≡ 0 = omega (arith, is, none) in
    at_end bs c.args.reading.now c.requires.reading (subst (λ (x : HoldingsState). IsTable x.table) c.holdings.ensures c.know_table.ensures)
    (sym (ap (λ (q : RequestsState). outstanding_count q.entries) (c.requests.ensures.value ∙ ap (λ (x : HoldingsState). x.requests) c.holdings-2.ensures)) ∙ zero_is) c.requires.stuck
