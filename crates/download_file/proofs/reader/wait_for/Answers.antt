use Rattle.std.proofs.Common.{arith}
use Rattle.download_file.proofs.AskLemmas.{by_iff, waits_more}
use Rattle.download_file.proofs.reader.wait_for.Goals as goal

pub loop-part-preserved : goal.loop-part-preserved
loop-part-preserved c = record {
  waiting = waits_more c.args.position c.args.wanted.now c.loop-part.part-index _ c.args.waiting.now.items c.loop-part.waiting.items c.push_back.new.self.items c.loop-part.position
      c.loop-part-test.true c.loop-part.invariant.waiting c.loop-part.invariant.position c.in_ok-push_back.ensures.items;
  position = let e = by_iff c.checked_add.result _ _ c.in-Some.next c.checked_add.ensures c.in-Some.is in let k = c.loop-part.invariant.position in omega (arith, e, k);
}
