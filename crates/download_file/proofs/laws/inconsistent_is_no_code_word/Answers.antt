use Rattle.download_file.proofs.TestedLemmas.{inconsistent_is_no_code_word}
use Rattle.download_file.proofs.laws.inconsistent_is_no_code_word.Goals as goal

pub returns : goal.returns
returns c = inconsistent_is_no_code_word
