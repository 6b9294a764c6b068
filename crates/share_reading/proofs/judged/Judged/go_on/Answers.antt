use Rattle.std.proofs.Common.{Some, refl}
use Rattle.share_reading.proofs.JudgedLemmas.{goes_first, goes_in}
use Rattle.share_reading.proofs.judged.Judged.go_on.Goals as goal

pub returns-in-Some : goal.returns-in-Some
returns-in-Some c =
    goes_in c.take.result c.args.self.now.judging (Some c.take.new.self) c.in-Some.judging c.take.new.self c.args.next.now c.in-Remaining.rest c.args.bytes.now
    c.in-Some.is c.in-Remaining.is refl c.take.ensures.ok

pub returns-in-None : goal.returns-in-None
returns-in-None c =
    goes_first c.args.self.now.judging c.begin.result c.args.next.now c.in-Remaining.rest c.args.bytes.now c.in-None.is c.in-Remaining.is c.begin.ensures
