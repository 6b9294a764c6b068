use Rattle.sources.proofs.Brought.{changes_are_brought}
use Rattle.sources.proofs.laws.changes_are_brought.Goals as goal

pub returns : goal.returns
returns c = changes_are_brought
