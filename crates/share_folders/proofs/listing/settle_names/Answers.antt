use Rattle.std.proofs.Common.{sym, ◌∙◌}
use Rattle.share_folders.proofs.Closings.{unlike}
use Rattle.share_folders.proofs.listing.settle_names.Goals as goal

pub returns-in-Unsynced-clause-settled : goal.returns-in-Unsynced-clause-settled
returns-in-Unsynced-clause-settled g c honest synced = absurd (unlike (sym c.in-Unsynced.is ∙ synced))
