use Rattle.std.proofs.Common.{◌≡◌}
use Rattle.request_record.specs.Asking.{fresh}
use Rattle.request_record.specs.Record.{asked_all}
use Rattle.carried_operations.proofs.Asked.{first_reads}
use Rattle.carried_operations.proofs.fetch.Fetch.start.Given as goal

abbrev pub invariant-reads : goal.invariant-reads
invariant-reads l = l.requests ≡ asked_all (first_reads l.range l.number) (fresh l.session l.now)
