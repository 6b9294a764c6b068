use Rattle.std.proofs.Common.{arith}
use Rattle.sha2_lanes.proofs.ScheduleLemmas.{sums_at}
use Rattle.sha2_lanes.proofs.schedule.make_four.Goals as goal

pub returns-clause-sums : goal.returns-clause-sums
returns-clause-sums c b held =
    let s1 = c.make_word.ensures.sums b held in
    let s2 = c.make_word-2.ensures.sums b s1 in
    let s3 = c.make_word-3.ensures.sums b (sums_at b _ _ _ _ (omega arith) s2) in
    let s4 = c.make_word-4.ensures.sums b (sums_at b _ _ _ _ (omega arith) s3) in
    sums_at b _ _ _ _ (omega arith) s4
