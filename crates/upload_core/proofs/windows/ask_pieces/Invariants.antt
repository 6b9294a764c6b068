use Rattle.std.proofs.Common.{◌≡◌}
use Rattle.request_record.specs.Record.{asked_all}
use Rattle.upload_core.specs.Moves.{asks_of_server}
use Rattle.upload_core.specs.Transfers.{pieces_from}
use Rattle.upload_core.proofs.windows.ask_pieces.Given as goal

-- the pieces before this one are asked
abbrev pub invariant-loop-index : goal.invariant-loop-index
invariant-loop-index l = l.requests ≡ asked_all (asks_of_server l.server (pieces_from l.goal l.index l.share 0)) l.initial.requests
