use Rattle.share_source.proofs.ReadLemmas.{read_failed, read_given}
use Rattle.share_source.proofs.leaf_reading.read_bytes.Goals as goal

pub returns-in-Ok-clause-reads : goal.returns-in-Ok-clause-reads
returns-in-Ok-clause-reads g c = read_given g.B.ShareBytes.gives g.B.ShareBytes.fails c.args.bytes.now c.read.new.self c.args.position c.args.offset _ c.in-Ok.ensures.gives

pub returns-in-Err-clause-reads : goal.returns-in-Err-clause-reads
returns-in-Err-clause-reads g c = read_failed g.B.ShareBytes.gives g.B.ShareBytes.fails c.args.bytes.now c.read.new.self c.args.position c.args.offset _ c.in-Err.ensures.fails
