use Rattle.std.proofs.Common.{rules, ℕ, ◌+◌, ◌<◌, ◌≤◌, length, sym, subst}
use Rattle.download_shares.specs.HoldingMoves.{Tells}
use Rattle.download_shares.specs.HoldingState.{TableState}
use Rattle.download_shares.proofs.Telling.{tells_by, tells_not}
use Rattle.download_shares.proofs.holdings.tell_all.Goals.{then-from-number_count+in_ok-tell, else-from-number_count}
use Rattle.download_shares.proofs.holdings.tell_all.Goals as goal

pub loop-share-preserved : goal.loop-share-preserved
loop-share-preserved c = elim c.if-from-number_count.branch [
  | then-from-number_count+in_ok-tell w ↦
      let inside : c.from.result < length c.loop-share.table.numbers = search rules in
      subst (λ (t : TableState). Tells c.args.server c.args.held.now (c.loop-share.share-index + 1) c.args.table.now t) (sym w.table-is)
      (tells_by c.args.server c.args.held.now c.loop-share.share-index _ c.args.table.now c.loop-share.table _ c.loop-share-test.true (subst (λ (n : ℕ). n < length c.loop-share.table.numbers) c.from.ensures inside) c.loop-share.invariant w.in_ok-tell.ensures.holdings w.in_ok-tell.ensures.number)
  | else-from-number_count w ↦
      let high : length c.loop-share.table.numbers ≤ c.from.result = search rules in
      subst (λ (t : TableState). Tells c.args.server c.args.held.now (c.loop-share.share-index + 1) c.args.table.now t) (sym w.table-is)
      (tells_not c.args.server c.args.held.now c.loop-share.share-index _ c.args.table.now c.loop-share.table c.loop-share-test.true (subst (λ (n : ℕ). length c.loop-share.table.numbers ≤ n) c.from.ensures high) c.loop-share.invariant)
]
