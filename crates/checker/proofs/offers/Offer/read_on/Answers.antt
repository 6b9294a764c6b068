use Rattle.std.proofs.Common.{refl, subst}
use Rattle.share_reading.specs.declared.judged.Found.{Found}
use Rattle.checker.specs.Hearing.{IsTakenFirst}
use Rattle.checker.proofs.HearingLemmas.{fewer_next, on_end, on_first, on_next, on_stopped, on_whole}
use Rattle.checker.proofs.offers.Offer.read_on.Goals as goal

pub loop-self-init : goal.loop-self-init
loop-self-init c = on_first c.args.cap.now c.args.waits c.args.self.now c.args.reading.now c.requires.waits c.requires.came c.requires.is

pub take_first-requires-clause-is : goal.take_first-requires-clause-is
take_first-requires-clause-is c = c.loop-self.invariant.some

pub take_first-requires-clause-ready : goal.take_first-requires-clause-ready
take_first-requires-clause-ready c = (c.args.waits, c.is_ready.ensures.yes c.loop-self-test.true)

pub loop-self-preserved : goal.loop-self-preserved
loop-self-preserved c =
    on_next c.args.cap.now c.args.waits c.args.self.now c.args.reading.now c.loop-self.self c.take_first.new.self c.loop-self.reached c.loop-self.invariant c.in-Next.next
    (subst (λ (f : Found). IsTakenFirst c.args.cap.now c.loop-self.reached f c.loop-self.self c.take_first.new.self) c.in-Next.is c.in_ok-next.ensures)

pub loop-self-smaller : goal.loop-self-smaller
loop-self-smaller c =
    fewer_next c.args.cap.now c.args.waits c.args.self.now c.args.reading.now c.loop-self.self c.take_first.new.self c.loop-self.reached c.loop-self.invariant c.in-Next.next
    (subst (λ (f : Found). IsTakenFirst c.args.cap.now c.loop-self.reached f c.loop-self.self c.take_first.new.self) c.in-Next.is c.in_ok-next.ensures)

pub returns-in-Whole : goal.returns-in-Whole
returns-in-Whole c =
    on_whole c.args.cap.now c.args.waits c.args.self.now c.args.reading.now c.loop-self.self c.take_first.new.self c.loop-self.reached c.loop-self.invariant c.in-Whole.verdict c.end.new.self
    (subst (λ (f : Found). IsTakenFirst c.args.cap.now c.loop-self.reached f c.loop-self.self c.take_first.new.self) c.in-Whole.is c.in_ok-next.ensures) c.end.ensures

pub returns-in-Stopped : goal.returns-in-Stopped
returns-in-Stopped c =
    on_stopped c.args.cap.now c.args.waits c.args.self.now c.args.reading.now c.loop-self.self c.take_first.new.self c.loop-self.reached c.loop-self.invariant c.in-Stopped.check c.end-in-Stopped.new.self
    (c.is_ready.ensures.yes c.loop-self-test.true)
    (subst (λ (f : Found). IsTakenFirst c.args.cap.now c.loop-self.reached f c.loop-self.self c.take_first.new.self) c.in-Stopped.is c.in_ok-next.ensures) c.end-in-Stopped.ensures

pub returns : goal.returns
returns c = on_end c.args.cap.now c.args.waits c.args.self.now c.args.reading.now c.loop-self.self c.loop-self.reached c.loop-self.invariant _ refl (c.is_ready.ensures.no c.loop-self-test.false)
