use Rattle.std.proofs.Common.{rules}
use Rattle.download_file.proofs.blocks.has_all.Goals as goal

pub returns-then-knows-clause-yes : goal.returns-then-knows-clause-yes
returns-then-knows-clause-yes c = λ yes. record { enough = search rules; known = search rules; ready = c.are_ready.ensures.yes yes }
