use Rattle.share_files.proofs.ReadingLemmas.{not_ended}
use Rattle.share_files.proofs.reading.Reading.read_piece.Goals as goal

pub returns-in-Ok-clause-read : goal.returns-in-Ok-clause-read
returns-in-Ok-clause-read g c = λ was. record {
  taken = c.read_waiting.ensures.read _ was.taken;
  ended = λ is. absurd (not_ended c.args.self.now.stage c.requires.going is);
}

pub returns-in-Err-clause-read : goal.returns-in-Err-clause-read
returns-in-Err-clause-read g c = λ was. record {
  taken = c.read_waiting.ensures.read _ was.taken;
  ended = λ is. absurd (not_ended c.args.self.now.stage c.requires.going is);
}
