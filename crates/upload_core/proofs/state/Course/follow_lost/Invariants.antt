use Rattle.std.proofs.Common.{◌≡◌, take}
use Rattle.upload_core.specs.Moves.{followed_all}
use Rattle.upload_core.specs.State.{with_record}
use Rattle.upload_core.proofs.state.Course.follow_lost.Given as goal

-- what follows the positions before this one is asked
abbrev pub invariant-loop-position : goal.invariant-loop-position
invariant-loop-position l =
    l.self ≡ with_record l.initial.self (followed_all l.initial.self.goal (take l.position-index l.positions) l.initial.self.requests)
