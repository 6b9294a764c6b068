use Rattle.std.proofs.Common.{◌≡◌, ◌-◌, None}
use Rattle.download_shares.specs.Opening.{nobody}
use Rattle.download_shares.specs.Numbers.{read_count}
use Rattle.download_core.specs.Steps.{AreOpened, MovesOn}
use Rattle.download_core.proofs.state.Machine.open_more.Given as goal

abbrev pub invariant-loop-self : goal.invariant-loop-self
invariant-loop-self l = record {
  opened : AreOpened l.initial.self.cap.total nobody l.self.beginnings;
  moves : l.initial.self.found ≡ None → MovesOn l.initial.self l.self;
  found : l.self.found ≡ l.initial.self.found;
}

abbrev pub decreases-loop-self : goal.decreases-loop-self
decreases-loop-self l = l.wanted - read_count l.self.beginnings.holdings.table.numbers
