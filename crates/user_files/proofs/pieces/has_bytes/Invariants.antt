use Rattle.std.proofs.Common.{◌<◌, length}
use Rattle.user_files.proofs.Comparing.{IsLeft}
use Rattle.user_files.proofs.pieces.has_bytes.Given as goal

abbrev pub invariant-loop : goal.invariant-loop
invariant-loop g l = IsLeft (g.F.Read.remaining l.fn.reader) (g.F.Read.remaining l.reader) l.bytes l.left × (0 < length l.buffer)
