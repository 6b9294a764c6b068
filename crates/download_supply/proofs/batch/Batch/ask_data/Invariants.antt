use Rattle.std.proofs.Common.{◌≡◌, ◌≤◌, max}
use Rattle.download_supply.specs.Batch.{IsMore}
use Rattle.download_supply.proofs.batch.Batch.ask_data.Given as goal

abbrev pub invariant-loop-index : goal.invariant-loop-index
invariant-loop-index l = record {
  reached : l.self.reached ≡ record l.initial.self.reached { data_piece = l.index };
  upto : l.index ≤ max l.initial.self.reached.data_piece l.count;
  from : l.initial.self.reached.data_piece ≤ l.index;
  more : IsMore l.initial.self l.self;
}
