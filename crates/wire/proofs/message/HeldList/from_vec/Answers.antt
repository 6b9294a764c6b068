use Rattle.std.proofs.Common.{arith}
use Rattle.std.proofs.lemmas.List.Elements.{All-more}
use Rattle.wire.specs.Held.{IsHeldShare}
use Rattle.wire.proofs.HeldLaws.{rise_on, are_held}
use Rattle.wire.proofs.message.HeldList.from_vec.Goals as goal

pub loop-held-preserved : goal.loop-held-preserved
loop-held-preserved c = record {
  rise = rw c.next_share-low.ensures.next (rise_on c.loop-held.low c.loop-held.held-index c.deref-held-items.result.now _ c.loop-held-test.true (omega arith) c.loop-held.invariant.rise);
  each = All-more IsHeldShare c.deref-held-items.result.now c.loop-held.held-index _ c.loop-held-test.true c.loop-held.invariant.each c.next_share-low.ensures.held;
}

pub invariant_of-result : goal.invariant_of-result
invariant_of-result c =
    rw (← c.deref-held-items.ensures.value) (are_held c.loop-held.low c.deref-held-items.result.now c.loop-held.held-index c.loop-held-test.false c.loop-held.invariant.rise c.loop-held.invariant.each)
