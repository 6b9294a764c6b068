use Rattle.std.proofs.Common.{ℕ, ◌<◌}
use Rattle.carried_operations.specs.Fetches.{IsReadBy, part}
use Rattle.carried_operations.proofs.fetch.Fetch.copy_to.Given as goal

abbrev pub invariant-reads : goal.invariant-reads
invariant-reads l = (k : ℕ) → k < l.number → IsReadBy l.self.range l.self.requests.entries k (part k l.out)
