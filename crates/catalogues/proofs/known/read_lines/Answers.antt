use Rattle.catalogues.proofs.KnownLaws.{one_more}
use Rattle.catalogues.proofs.known.read_lines.Goals as goal

pub loop-line-preserved : goal.loop-line-preserved
loop-line-preserved c =
    let read = rw c.in-Ok-Some.field-0-is at c.in-Ok-Some.ensures in
    one_more c.args.catalogue.now.left c.loop-line.catalogue c.next_line.new.self c.loop-line.caps c.note.new.caps c.in-Ok-Some.line.cap c.in-Ok-Some.line.name
    read.line read.lines c.in_ok-note-in-Ok-Some.ensures c.loop-line.invariant
