use Rattle.download_core.proofs.TestedLemmas.{inconsistent_shows}
use Rattle.download_core.proofs.download.inconsistent_shows_no_code_word.Goals as goal

pub returns : goal.returns
returns c = inconsistent_shows
