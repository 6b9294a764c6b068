use Rattle.checker.proofs.Keeping.{asks_trans}
use Rattle.checker.proofs.state.Machine.settle.Goals as goal

pub loop-self-preserved : goal.loop-self-preserved
loop-self-preserved c = record {
  book = c.in_ok-begin_next.ensures.book;
  awaited = c.in_ok-begin_next.ensures.awaited c.loop-self.invariant.awaited;
  safe = c.in_ok-begin_next.ensures.safe;
  asks = asks_trans c.args.self.now c.loop-self.self c.begin_next.new.self c.loop-self.invariant.asks c.begin_next.ensures.asks;
}

pub returns-in_err-begin_next-clause-asks : goal.returns-in_err-begin_next-clause-asks
returns-in_err-begin_next-clause-asks c = asks_trans c.args.self.now c.loop-self.self c.begin_next.new.self c.loop-self.invariant.asks c.begin_next.ensures.asks
