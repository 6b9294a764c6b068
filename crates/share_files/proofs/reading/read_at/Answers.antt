use Rattle.std.proofs.lemmas.List.Elements.{All-set}
use Rattle.share_files.specs.Readings.{IsReading}
use Rattle.share_files.proofs.reading.read_at.Goals as goal

pub returns-clause-read : goal.returns-clause-read
returns-clause-read g c = λ each.
    All-set (IsReading g.F.Read.remaining) c.args.readings.now c.args.place c.read_piece.new.self (c.read_piece.ensures.read (each c.args.place _ c.requires.within)) each
