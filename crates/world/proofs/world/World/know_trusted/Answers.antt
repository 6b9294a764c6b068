use Rattle.std.proofs.Common.{subst}
use Rattle.world.specs.Binding.{IsBound}
use Rattle.world.specs.Headline.{IsTrusted}
use Rattle.world.specs.State.{WorldValue, state_of}
use Rattle.world.specs.Repairs.{AreTrustedRepairs}
use Rattle.world.proofs.Worlds.{kept_bound, kept_repairs, kept_trusted}
use Rattle.world.proofs.world.World.know_trusted.Goals as goal

pub returns-clause-trusted : goal.returns-clause-trusted
returns-clause-trusted g c = subst (λ (w : WorldValue). IsTrusted w.state) c.self.view_is (kept_trusted (state_of c.self.inside.scene) c.self.invariant)

pub returns-clause-repairs : goal.returns-clause-repairs
returns-clause-repairs g c = subst (λ (w : WorldValue). AreTrustedRepairs w.state) c.self.view_is (kept_repairs (state_of c.self.inside.scene) c.self.invariant)

pub returns-clause-bound : goal.returns-clause-bound
returns-clause-bound g c = subst (λ (w : WorldValue). IsBound w.state) c.self.view_is (kept_bound (state_of c.self.inside.scene) c.self.invariant)
