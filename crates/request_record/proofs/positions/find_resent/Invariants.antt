use Rattle.std.proofs.Common.{◌≡◌, ◌++◌, drop}
use Rattle.request_record.specs.Record.{is_resent_at}
use Rattle.request_record.specs.Entries.{positions_of}
use Rattle.request_record.proofs.positions.find_resent.Given as goal

-- the positions found, and those that the rest gives
abbrev pub invariant-loop-entry : goal.invariant-loop-entry
invariant-loop-entry l =
    l.positions.items ++ positions_of (is_resent_at l.now) (drop l.entry-index l.entries) ≡ positions_of (is_resent_at l.now) l.entries
