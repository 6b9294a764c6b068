use Rattle.std.proofs.Common.{rules}
use Rattle.std.proofs.lemmas.List.{length-append}
use Rattle.connections.proofs.Pieces.{frame_len}
use Rattle.connections.proofs.connection.Connection.queue.Goals as goal

pub returns-clause-bound : goal.returns-clause-bound
returns-clause-bound g c =
    let most = frame_len c.args.message.now c.encode_to.ensures.right in
    search (rules, most, length-append)
