use Rattle.std.proofs.Common.{subst, sym}
use Rattle.merkle.specs.Known.{KnowsHashes}
use Rattle.merkle.proofs.KnownLemmas.{starting_knows}
use Rattle.download_parts.proofs.partial.tree_with.Goals as goal

pub returns-clause-hashes : goal.returns-clause-hashes
returns-clause-hashes c =
    subst KnowsHashes (sym c.in_ok-tree.ensures) (starting_knows c.args.root.now c.args.padding.now c.know_hash.ensures)
