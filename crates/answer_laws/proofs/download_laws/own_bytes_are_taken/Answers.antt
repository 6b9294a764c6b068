use Rattle.answer_laws.proofs.Downloads.OwnReaders.{own_bytes_are_taken}
use Rattle.answer_laws.proofs.download_laws.own_bytes_are_taken.Goals as goal

pub returns : goal.returns
returns c = own_bytes_are_taken
