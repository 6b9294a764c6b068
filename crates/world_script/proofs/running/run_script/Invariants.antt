use Rattle.std.proofs.Common.{◌≡◌, vec_len}
use Rattle.world_script.proofs.running.run_script.Given as goal

abbrev pub invariant-loop-kind : goal.invariant-loop-kind
invariant-loop-kind l = vec_len l.liars ≡ l.kind-index
