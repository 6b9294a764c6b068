use Rattle.std.proofs.Common.{◌≡◌, ◌<◌, length, rules}
use Rattle.world.specs.State.{state_of}
use Rattle.world.proofs.Moving.{moved_keeps, ticking_begins, ticking_ends, ticking_on}
use Rattle.world.proofs.Preserving.{preserves_on}
use Rattle.world.proofs.scene.Scene.tick_operations.Goals as goal

pub loop-number-init : goal.loop-number-init
loop-number-init c = ticking_begins (state_of c.args.self.now) c.args.node

pub returns-in_err-tick_at-clause-keeps : goal.returns-in_err-tick_at-clause-keeps
returns-in_err-tick_at-clause-keeps c =
    let mid = state_of c.loop-number.self in
    preserves_on (state_of c.args.self.now) mid (record mid { operations = c.tick_at.new.operations.items; sent = c.tick_at.new.sent.items }) c.loop-number.invariant.keeps
    (moved_keeps mid c.loop-number.number c.tick_at.new.operations.items c.tick_at.new.sent.items c.in_err-tick_at.ensures.some)

pub loop-number-preserved : goal.loop-number-preserved
loop-number-preserved c =
    let low : c.loop-number.number < length c.args.self.now.operations.items = search rules in
    ticking_on (state_of c.args.self.now) (state_of c.loop-number.self) c.args.node c.loop-number.number c.tick_at.new.operations.items c.tick_at.new.sent.items c.loop-number.invariant low
    c.in_ok-tick_at.ensures.ok c.in_ok-tick_at.ensures.some

pub returns-clause-ok : goal.returns-clause-ok
returns-clause-ok c =
    let all : c.loop-number.number ≡ length c.args.self.now.operations.items = search rules in
    ticking_ends (state_of c.args.self.now) (state_of c.loop-number.self) c.args.node c.loop-number.number c.loop-number.invariant all
