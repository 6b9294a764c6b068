use Rattle.user_files.proofs.Retrying.{read_then}
use Rattle.user_files.proofs.pieces.read_some.Goals as goal

pub returns-in_default-2-clause-read : goal.returns-in_default-2-clause-read
returns-in_default-2-clause-read g c =
    read_then (g.F.Read.remaining c.args.reader.now) (g.F.Read.remaining c.loop.reader) (g.F.Read.remaining c.read.new.self) c.read.result c.read.new.buf c.loop.invariant.0 c.read.ensures.bytes
