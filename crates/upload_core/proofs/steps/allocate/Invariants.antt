use Rattle.std.proofs.Common.{◌≡◌, take}
use Rattle.request_record.specs.Record.{asked_all}
use Rattle.upload_core.specs.Course.{allocations}
use Rattle.upload_core.proofs.steps.allocate.Given as goal

-- the pairs before this one are asked for
abbrev pub invariant-loop-server : goal.invariant-loop-server
invariant-loop-server l = l.requests ≡ asked_all (allocations l.length (take l.server-index l.pairs)) l.initial.requests
