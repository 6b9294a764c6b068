use Rattle.download_parts.proofs.TreeLemmas.{leaves_lead}
use Rattle.download_parts.proofs.tree_laws.leaves_lead.Goals as goal

pub returns : goal.returns
returns c = leaves_lead
