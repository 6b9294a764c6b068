use Rattle.std.proofs.Common.{length, ◌-◌}
use Rattle.sources.proofs.PartReading.{IsReadSoFar}
use Rattle.sources.proofs.part.read_part.Given as goal

abbrev pub invariant-loop-done : goal.invariant-loop-done
invariant-loop-done g l =
    IsReadSoFar g.S.Source.gives g.S.Source.size g.S.Source.failures l.fn.source l.fn.offset l.fn.out l.source l.out l.done

abbrev pub decreases-loop-done : goal.decreases-loop-done
decreases-loop-done g l = length l.initial.out - l.done
