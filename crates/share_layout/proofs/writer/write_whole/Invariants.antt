use Rattle.share_layout.proofs.WriteLemmas.{Added}
use Rattle.share_layout.proofs.writer.write_whole.Given as goal

abbrev pub invariant-turns : goal.invariant-turns
invariant-turns g l = Added (g.W.Write.contents l.fn.writer) (g.W.Write.contents l.writer) l.bytes l.rest
