use Rattle.std.proofs.Common.{◌≡◌, ℕ, ◌+◌, ◌<◌, length}
use Rattle.user_files.specs.Pieces.{Copies}
use Rattle.user_files.proofs.spooling.copy_pieces.Given as goal

abbrev pub invariant-loop : goal.invariant-loop
invariant-loop g l = (count : ℕ) × Copies (g.S.Read.remaining l.fn.reader) (g.S.Read.remaining l.reader) (g.W.Write.contents l.fn.writer) (g.W.Write.contents l.writer) count × (l.size ≡ l.written + count) × (0 < length l.buffer)
