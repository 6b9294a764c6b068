use Rattle.std.proofs.Common.{subst}
use Rattle.world.specs.Binding.{IsBound}
use Rattle.world.specs.Headline.{IsTrusted}
use Rattle.world.specs.Later.{IsLater}
use Rattle.world.specs.State.{WorldValue, state_of}
use Rattle.world.specs.Repairs.{AreTrustedRepairs}
use Rattle.world.proofs.Later.{same_world}
use Rattle.world.proofs.Worlds.{kept_bound, kept_later, kept_repairs, kept_trusted}
use Rattle.world.proofs.world.World.step.Goals as goal

pub returns-then-self-clause-trusted : goal.returns-then-self-clause-trusted
returns-then-self-clause-trusted g c = subst (λ (w : WorldValue). IsTrusted w.state) c.self.view_is (kept_trusted (state_of c.self.inside.scene) c.self.invariant)

pub returns-in-Ok-clause-trusted : goal.returns-in-Ok-clause-trusted
returns-in-Ok-clause-trusted g c =
    kept_trusted (state_of c.take_event.new.self) (kept_later (state_of c.self.inside.scene) (state_of c.take_event.new.self) c.take_event.ensures.keeps c.self.invariant).0

pub returns-in-Err-Refused-clause-trusted : goal.returns-in-Err-Refused-clause-trusted
returns-in-Err-Refused-clause-trusted g c =
    kept_trusted (state_of c.take_event.new.self) (kept_later (state_of c.self.inside.scene) (state_of c.take_event.new.self) c.take_event.ensures.keeps c.self.invariant).0

pub returns-in-Err-OutOfMemory-clause-trusted : goal.returns-in-Err-OutOfMemory-clause-trusted
returns-in-Err-OutOfMemory-clause-trusted g c =
    kept_trusted (state_of c.take_event.new.self) (kept_later (state_of c.self.inside.scene) (state_of c.take_event.new.self) c.take_event.ensures.keeps c.self.invariant).0

pub returns-then-self-clause-repairs : goal.returns-then-self-clause-repairs
returns-then-self-clause-repairs g c = subst (λ (w : WorldValue). AreTrustedRepairs w.state) c.self.view_is (kept_repairs (state_of c.self.inside.scene) c.self.invariant)

pub returns-in-Ok-clause-repairs : goal.returns-in-Ok-clause-repairs
returns-in-Ok-clause-repairs g c =
    kept_repairs (state_of c.take_event.new.self) (kept_later (state_of c.self.inside.scene) (state_of c.take_event.new.self) c.take_event.ensures.keeps c.self.invariant).0

pub returns-in-Err-Refused-clause-repairs : goal.returns-in-Err-Refused-clause-repairs
returns-in-Err-Refused-clause-repairs g c =
    kept_repairs (state_of c.take_event.new.self) (kept_later (state_of c.self.inside.scene) (state_of c.take_event.new.self) c.take_event.ensures.keeps c.self.invariant).0

pub returns-in-Err-OutOfMemory-clause-repairs : goal.returns-in-Err-OutOfMemory-clause-repairs
returns-in-Err-OutOfMemory-clause-repairs g c =
    kept_repairs (state_of c.take_event.new.self) (kept_later (state_of c.self.inside.scene) (state_of c.take_event.new.self) c.take_event.ensures.keeps c.self.invariant).0

pub returns-then-self-clause-bound : goal.returns-then-self-clause-bound
returns-then-self-clause-bound g c = subst (λ (w : WorldValue). IsBound w.state) c.self.view_is (kept_bound (state_of c.self.inside.scene) c.self.invariant)

pub returns-in-Ok-clause-bound : goal.returns-in-Ok-clause-bound
returns-in-Ok-clause-bound g c =
    kept_bound (state_of c.take_event.new.self) (kept_later (state_of c.self.inside.scene) (state_of c.take_event.new.self) c.take_event.ensures.keeps c.self.invariant).0

pub returns-in-Err-Refused-clause-bound : goal.returns-in-Err-Refused-clause-bound
returns-in-Err-Refused-clause-bound g c =
    kept_bound (state_of c.take_event.new.self) (kept_later (state_of c.self.inside.scene) (state_of c.take_event.new.self) c.take_event.ensures.keeps c.self.invariant).0

pub returns-in-Err-OutOfMemory-clause-bound : goal.returns-in-Err-OutOfMemory-clause-bound
returns-in-Err-OutOfMemory-clause-bound g c =
    kept_bound (state_of c.take_event.new.self) (kept_later (state_of c.self.inside.scene) (state_of c.take_event.new.self) c.take_event.ensures.keeps c.self.invariant).0

pub returns-then-self-clause-later : goal.returns-then-self-clause-later
returns-then-self-clause-later g c = same_world _

pub returns-in-Ok-clause-later : goal.returns-in-Ok-clause-later
returns-in-Ok-clause-later g c =
    subst (λ (w : WorldValue). IsLater w.state (state_of c.take_event.new.self)) c.self.view_is
    (kept_later (state_of c.self.inside.scene) (state_of c.take_event.new.self) c.take_event.ensures.keeps c.self.invariant).1

pub returns-in-Err-Refused-clause-later : goal.returns-in-Err-Refused-clause-later
returns-in-Err-Refused-clause-later g c =
    subst (λ (w : WorldValue). IsLater w.state (state_of c.take_event.new.self)) c.self.view_is
    (kept_later (state_of c.self.inside.scene) (state_of c.take_event.new.self) c.take_event.ensures.keeps c.self.invariant).1

pub returns-in-Err-OutOfMemory-clause-later : goal.returns-in-Err-OutOfMemory-clause-later
returns-in-Err-OutOfMemory-clause-later g c =
    subst (λ (w : WorldValue). IsLater w.state (state_of c.take_event.new.self)) c.self.view_is
    (kept_later (state_of c.self.inside.scene) (state_of c.take_event.new.self) c.take_event.ensures.keeps c.self.invariant).1
