use Rattle.request_record.specs.declared.entries.Entry.{Entry}
use Rattle.upload_core.proofs.Telling.{AreTold}
use Rattle.upload_core.proofs.rounds.servers_of.Given as goal

-- what the entries before this one tell, and what the rest tells
abbrev pub invariant-loop-entry : goal.invariant-loop-entry
invariant-loop-entry l = AreTold (λ (e : Entry). e.request) l.goal l.entries l.entry-index l.told
