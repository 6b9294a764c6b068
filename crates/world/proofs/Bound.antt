-- What binds downloads and checks follows from what holds of every world.
use Rattle.world.specs.Binding.{IsBound}
use Rattle.world.specs.Consistent.{IsConsistent}
use Rattle.world.specs.State.{WorldState}
use Rattle.world.proofs.Agree.{started_are_given}
use Rattle.world.proofs.Binding.{blocks_are_own, good_shares_are_own, never_inconsistent, no_false_blame}
use Rattle.world.proofs.Enough.{confirmed_are_good, enough_are_found, keepers_are_not_blamed}

pub bound : (w : WorldState) → IsConsistent w → IsBound w
bound w c = record {
  never_inconsistent = never_inconsistent w c;
  blocks_are_own = blocks_are_own w c;
  good_shares_are_own = good_shares_are_own w c;
  no_false_blame = no_false_blame w c;
  started_are_given = started_are_given w c;
  keepers_are_not_blamed = keepers_are_not_blamed w c;
  enough_are_found = enough_are_found w c;
  confirmed_are_good = confirmed_are_good w c;
}
