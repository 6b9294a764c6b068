use Rattle.download_file.proofs.AskLemmas.{no_tree_by}
use Rattle.download_file.proofs.reader.ask_other.Goals as goal

pub returns-clause-none : goal.returns-clause-none
returns-clause-none c = no_tree_by c.wanted.result c.args.supply.now c.wanted.new.self c.args.last c.wanted.ensures.exact c.wanted.ensures.unchanged
