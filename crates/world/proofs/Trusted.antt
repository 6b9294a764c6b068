-- The headline follows from what holds of every world.
use Rattle.world.specs.State.{WorldState}
use Rattle.world.specs.Consistent.{IsConsistent}
use Rattle.world.specs.Headline.{IsTrusted}
use Rattle.world.proofs.Agree.{downloads_agree, files_are_given}
use Rattle.world.proofs.Happy.{happy_is_matched}
use Rattle.world.proofs.Keep.{acknowledged_keep, happy_is_acknowledged, honest_keep}

pub trusted : (w : WorldState) → IsConsistent w → IsTrusted w
trusted w c = record {
  happy_is_matched = happy_is_matched w c;
  happy_is_acknowledged = happy_is_acknowledged w c;
  honest_keep = honest_keep w c;
  acknowledged_keep = acknowledged_keep w c;
  downloads_agree = downloads_agree w c;
  files_are_given = files_are_given w c;
}
