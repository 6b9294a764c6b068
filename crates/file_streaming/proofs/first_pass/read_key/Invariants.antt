use Rattle.std.proofs.Common.{◌-◌}
use Rattle.file_streaming.proofs.KeyReading.{IsReadSoFar}
use Rattle.file_streaming.proofs.first_pass.read_key.Given as goal

abbrev pub invariant-loop-done : goal.invariant-loop-done
invariant-loop-done g l = IsReadSoFar g.S.Source.gives g.S.Source.size g.S.Source.failures l.fn.size l.fn.source l.fn.hasher l.source l.hasher l.done

abbrev pub decreases-loop-done : goal.decreases-loop-done
decreases-loop-done g l = l.fn.size - l.done
