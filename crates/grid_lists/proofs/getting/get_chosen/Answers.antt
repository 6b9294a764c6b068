use Rattle.std.proofs.Common.{ap}
use Rattle.grid_lists.proofs.GetLemmas.{came_misnamed, came_refused, came_restored}
use Rattle.grid_lists.proofs.getting.get_chosen.Goals as goal

pub returns-in-Ok-get_below-clause-came : goal.returns-in-Ok-get_below-clause-came
returns-in-Ok-get_below-clause-came g c = came_restored _ c.args.words.now c.args.cap c.args.name.now c.in-Ok.ensures.below.0 c.in-Ok.rest.now c.in-Ok.ensures.below.1 _ _ c.in-Ok-get_below.ensures.ok

pub returns-in_ok-tell_refused-in-Err-get_below-clause-came : goal.returns-in_ok-tell_refused-in-Err-get_below-clause-came
returns-in_ok-tell_refused-in-Err-get_below-clause-came g c = came_refused _ c.args.words.now c.args.cap c.args.name.now c.in-Ok.ensures.below.0 c.in-Ok.rest.now c.in-Ok.ensures.below.1 _ _ c.in-Err-get_below.fault c.status.result c.status.ensures c.in-Err-get_below.ensures.err

pub returns-in_ok-tell_misnamed-in-Err-clause-came : goal.returns-in_ok-tell_misnamed-in-Err-clause-came
returns-in_ok-tell_misnamed-in-Err-clause-came g c = came_misnamed _ c.args.words.now c.args.cap c.args.name.now _ (λ front rest below. c.in-Err.ensures.only front rest below)
