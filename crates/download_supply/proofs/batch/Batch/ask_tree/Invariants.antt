use Rattle.std.proofs.Common.{◌≡◌}
use Rattle.download_supply.specs.Batch.{AreRaised, IsMore, levels_of, with_levels}
use Rattle.download_supply.proofs.batch.Batch.ask_tree.Given as goal

abbrev pub invariant-loop-level : goal.invariant-loop-level
invariant-loop-level l = record {
  levels : AreRaised l.plan.geometry l.plan.first l.plan.end l.level (levels_of l.tree l.initial.self.reached) (levels_of l.tree l.self.reached);
  others : l.self.reached ≡ with_levels l.tree l.initial.self.reached (levels_of l.tree l.self.reached);
  more : IsMore l.initial.self l.self;
}
