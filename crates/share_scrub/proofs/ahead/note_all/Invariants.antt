use Rattle.std.proofs.Common.{◌≡◌, length}
use Rattle.share_scrub.proofs.ahead.note_all.Given as goal

-- what contracts see of the scrubs stays
abbrev pub invariant-loop-folder : goal.invariant-loop-folder
invariant-loop-folder g l = (l.scrub ≡ l.fn.scrub) × (l.others ≡ l.fn.others)

abbrev pub decreases-loop-folder : goal.decreases-loop-folder
decreases-loop-folder g l = length l.files.items
