use Rattle.std.proofs.Common.{◌≡◌, [], replicate}
use Rattle.share_source.proofs.held.Held.none_of.Given as goal

abbrev pub invariant-loop : goal.invariant-loop
invariant-loop l = l.held.items ≡ replicate l.counter []
