use Rattle.download_segments.proofs.LawLemmas.{no_code_words}
use Rattle.download_segments.proofs.laws.no_code_words.Goals as goal

pub returns : goal.returns
returns c = no_code_words
