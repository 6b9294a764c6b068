use Rattle.download_parts.proofs.TreeLemmas.{block_roots_lead}
use Rattle.download_parts.proofs.tree_laws.block_roots_lead.Goals as goal

pub returns : goal.returns
returns c = block_roots_lead
