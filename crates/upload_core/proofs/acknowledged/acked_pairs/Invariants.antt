use Rattle.std.proofs.Common.{◌≡◌, ◌++◌, drop, map}
use Rattle.request_record.specs.declared.entries.Entry.{Entry}
use Rattle.upload_core.specs.Acknowledged.{acked_pairs}
use Rattle.upload_core.proofs.acknowledged.acked_pairs.Given as goal

-- the pairs of the entries so far, and those that the rest gives
abbrev pub invariant-loop-entry : goal.invariant-loop-entry
invariant-loop-entry l = l.pairs.items ++ acked_pairs l.goal (map (λ (e : Entry). e.request) (drop l.entry-index l.entries)) ≡ acked_pairs l.goal (map (λ (e : Entry). e.request) l.entries)
