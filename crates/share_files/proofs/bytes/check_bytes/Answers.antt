use Rattle.share_files.proofs.bytes.check_bytes.Goals as goal

pub returns-in-Ok-eq0-clause-verdict : goal.returns-in-Ok-eq0-clause-verdict
returns-in-Ok-eq0-clause-verdict g c =
    let all = g.R.Read.remaining c.args.reader.now in
    let end = (rw c.in-Ok-eq0.is at c.read_piece.ensures.end) c.in-Ok-eq0.field-0-test in
    c.verdict_of.ensures all (g.R.Read.remaining c.read_piece.new.reader) (c.read_piece.ensures.read all c.loop.invariant.0) end
