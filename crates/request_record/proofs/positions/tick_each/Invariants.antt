use Rattle.std.proofs.Common.{◌≡◌, ◌++◌, map, take, drop}
use Rattle.request_record.specs.Entries.{ticked_entry}
use Rattle.request_record.proofs.positions.tick_each.Given as goal

-- those before this one took note
abbrev pub invariant-loop-entry : goal.invariant-loop-entry
invariant-loop-entry l = l.entries ≡ map (ticked_entry l.now) (take l.entry-index l.fn.entries) ++ drop l.entry-index l.fn.entries
