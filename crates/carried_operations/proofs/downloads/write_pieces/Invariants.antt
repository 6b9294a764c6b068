use Rattle.std.proofs.Common.{◌≡◌, length}
use Rattle.carried_operations.specs.Written.{capped}
use Rattle.carried_operations.proofs.Writing.{Written}
use Rattle.download_core.specs.State.{handed, ready}
use Rattle.carried_operations.proofs.downloads.write_pieces.Given as goal

abbrev pub invariant-pieces : goal.invariant-pieces
invariant-pieces g l =
    Written l.fn.download (g.O.Write.contents l.fn.out) l.download (g.O.Write.contents l.out) × (l.offset ≡ capped (handed l.download))

-- a piece fewer is ready each time
abbrev pub decreases-pieces : goal.decreases-pieces
decreases-pieces g l = length (ready l.download)
