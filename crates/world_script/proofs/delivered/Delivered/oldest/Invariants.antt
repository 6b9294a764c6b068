use Rattle.std.proofs.Common.{◌≡◌, ℕ, ◌<◌}
use Rattle.world_script.specs.Plans.{IsMarked}
use Rattle.world_script.proofs.delivered.Delivered.oldest.Given as goal

abbrev pub invariant-loop-position : goal.invariant-loop-position
invariant-loop-position l = record {
  same : l.self ≡ l.initial.self;
  older : (p : ℕ) → p < l.position → IsMarked l.initial.self p;
}
