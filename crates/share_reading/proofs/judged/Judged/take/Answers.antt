use Rattle.std.proofs.Common.{refl, subst, arith}
use Rattle.share_reading.specs.Reading.{Advances}
use Rattle.share_reading.proofs.JudgedLemmas.{at_end, judged_on, judged_whole}
use Rattle.share_reading.proofs.judged.Judged.take.Goals as goal

pub judge-requires : goal.judge-requires
judge-requires c =
    let u = c.requires.underway in
    at_end c.args.cap.now u.front u.back c.args.reading.now c.args.bytes.now c.args.self.now c.args.self.now.judging refl u.led u.judged
    (subst (Advances c.args.cap.now c.args.reading.now c.args.bytes.now) c.in-Ok-Whole.field-0-is c.in-Ok-Whole.ensures.taken)

pub returns-in_ok-go_on-in-Ok-Next-clause-judged : goal.returns-in_ok-go_on-in-Ok-Next-clause-judged
returns-in_ok-go_on-in-Ok-Next-clause-judged c front back led is =
    judged_on c.args.cap.now front back c.args.reading.now c.in-Ok-Next.next c.args.bytes.now c.args.self.now.judging c.go_on.new.self.judging
    (λ i. omega (arith, c.type_inv.bytes i)) led is
    (subst (Advances c.args.cap.now c.args.reading.now c.args.bytes.now) c.in-Ok-Next.field-0-is c.in-Ok-Next.ensures.taken)
    c.in_ok-go_on-in-Ok-Next.ensures

pub returns-in_ok-judge-in-Ok-Whole-clause-judged : goal.returns-in_ok-judge-in-Ok-Whole-clause-judged
returns-in_ok-judge-in-Ok-Whole-clause-judged c front back led is =
    judged_whole c.args.cap.now c.args.num front back c.args.reading.now c.args.bytes.now c.args.self.now c.args.self.now.judging c.in_ok-judge-in-Ok-Whole.field-0
    refl is (subst (Advances c.args.cap.now c.args.reading.now c.args.bytes.now) c.in-Ok-Whole.field-0-is c.in-Ok-Whole.ensures.taken)
    (c.in_ok-judge-in-Ok-Whole.ensures c.args.cap.now)
