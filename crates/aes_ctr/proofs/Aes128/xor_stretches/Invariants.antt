use Rattle.std.proofs.Common.{◌-◌, ◌≤◌}
use Rattle.aes_ctr.proofs.StreamLemmas.{IsAddedTo}
use Rattle.aes_ctr.proofs.Aes128.xor_stretches.Given as goal

abbrev pub invariant-loop-done : goal.invariant-loop-done
invariant-loop-done l = record {
  within : l.done ≤ l.len;
  is : IsAddedTo l.self l.offset l.done l.fn.text l.text;
}

abbrev pub decreases-loop-done : goal.decreases-loop-done
decreases-loop-done l = l.len - l.done
