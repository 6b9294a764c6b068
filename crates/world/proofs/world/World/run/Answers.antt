use Rattle.std.proofs.Common.{◌≡◌, ◌<◌, Some, length, rules}
use Rattle.std.specs.Prelude.{slice_get}
use Rattle.world.proofs.Later.{later_still}
use Rattle.world.proofs.Moving.{at_position}
use Rattle.world.proofs.Worlds.{running_begins, running_on}
use Rattle.world.proofs.world.World.run.Goals as goal

pub loop-taken-preserved : goal.loop-taken-preserved
loop-taken-preserved g c =
    let low : c.loop-taken.taken < length c.args.events.now = search rules in
    let at : slice_get c.args.events.now c.loop-taken.taken ≡ Some c.index-events-taken.result =
    at_position c.args.events.now c.loop-taken.taken c.index-events-taken.result low c.index-events-taken.is in
    running_on c.args.self.now c.loop-taken.self c.step.new.self c.args.events.now c.loop-taken.taken c.index-events-taken.result c.loop-taken.invariant at c.in-Ok.ensures.gives
    c.in-Ok.ensures.later c.in-Ok.ensures.trusted c.in-Ok.ensures.repairs c.in-Ok.ensures.bound

pub returns-in-Err-clause-later : goal.returns-in-Err-clause-later
returns-in-Err-clause-later g c =
    later_still c.args.self.now.state c.loop-taken.self.state c.step.new.self.state c.loop-taken.invariant.later c.in-Err.ensures.later

pub loop-taken-init : goal.loop-taken-init
loop-taken-init g c = running_begins c.args.self.now c.args.events.now c.know_trusted.ensures.trusted c.know_trusted.ensures.repairs c.know_trusted.ensures.bound
