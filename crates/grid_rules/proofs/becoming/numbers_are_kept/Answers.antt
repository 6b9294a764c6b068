use Rattle.grid_rules.proofs.KeptNumbers.{numbers_are_kept}
use Rattle.grid_rules.proofs.becoming.numbers_are_kept.Goals as goal

pub returns : goal.returns
returns c = numbers_are_kept
