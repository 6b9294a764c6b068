use Rattle.std.proofs.Common.{subst, sym}
use Rattle.checker.specs.Found.{IsOver}
use Rattle.checker.proofs.report.push_verdicts.Goals as goal

pub verdict_of-requires : goal.verdict_of-requires
verdict_of-requires c = record {
  ended = subst IsOver (sym c.offer-item.is) (c.requires.ended c.loop-offer.offer-index c.offer-item.result c.loop-offer-test.true);
}
