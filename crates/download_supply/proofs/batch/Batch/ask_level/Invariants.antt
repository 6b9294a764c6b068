use Rattle.std.proofs.Common.{◌≡◌, ◌≤◌, max}
use Rattle.std.specs.Prelude.{slice_set}
use Rattle.download_supply.specs.Batch.{IsMore, levels_of, with_levels}
use Rattle.download_supply.proofs.batch.Batch.ask_level.Given as goal

abbrev pub invariant-loop-index : goal.invariant-loop-index
invariant-loop-index l = record {
  reached : l.self.reached ≡ with_levels l.tree l.initial.self.reached
      (slice_set (levels_of l.tree l.initial.self.reached) l.level l.index);
  upto : l.index ≤ max l.from l.count;
  behind : l.from ≤ l.index;
  more : IsMore l.initial.self l.self;
}
