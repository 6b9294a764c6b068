use Rattle.std.proofs.Common.{◌+◌, ◌*◌, ◌∙◌, arith}
use Rattle.sha2.proofs.Schedule256.{window_word_place}
use Rattle.sha2_lanes.specs.Lanes.{lane}
use Rattle.sha2_lanes.proofs.Lanes.{vectors_set}
use Rattle.sha2_lanes.proofs.ScheduleLemmas.{more_at}
use Rattle.sha2_lanes.proofs.schedule.make_word.Goals as goal

pub returns-clause-vectors : goal.returns-clause-vectors
returns-clause-vectors c = vectors_set 64 c.args.all.now _ _ c.requires.vectors c.with_constant.ensures.long

pub returns-clause-sums : goal.returns-clause-sums
returns-clause-sums c b held =
    let word = c.next_word.ensures in
    more_at b c.args.w.now _ c.args.all.now c.next_word.result _ (16 * c.args.turn + c.args.position) c.args.position _
    (omega arith) (omega arith) (omega arith) (omega arith) c.requires.vectors held
    (λ j below. word.value j below ∙ window_word_place (lane c.args.w.now j) c.args.turn c.args.position)
    word.window c.with_constant.ensures.sums
