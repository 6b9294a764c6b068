use Rattle.std.proofs.Common.{◌≡◌, take}
use Rattle.request_record.specs.Asking.{begun}
use Rattle.request_record.proofs.ledger.Ledger.begin.Given as goal

-- the servers before this one are asked
abbrev pub invariant-loop-server : goal.invariant-loop-server
invariant-loop-server l = l.ledger ≡ begun (take l.server-index l.servers) l.session l.now
