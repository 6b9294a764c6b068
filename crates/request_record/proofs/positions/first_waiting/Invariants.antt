use Rattle.std.proofs.Common.{◌≡◌, drop}
use Rattle.request_record.specs.Entries.{first_position}
use Rattle.request_record.proofs.positions.first_waiting.Given as goal

-- none before this one waits
abbrev pub invariant-loop-entry : goal.invariant-loop-entry
invariant-loop-entry l = first_position (drop l.entry-index l.entries) l.end ≡ first_position l.entries l.end
