use Rattle.aes_ctr.proofs.SubstitutionLemmas.{are_slices, substituted_block}
use Rattle.aes_ctr.proofs.substitution.substituted.Goals as goal

pub returns-clause-slices : goal.returns-clause-slices
returns-clause-slices c =
    are_slices c.args.slices c.sums-sums.result c.products.result c.inverses.result c.outputs.result c.requires c.sums-sums.ensures c.products.ensures c.inverses.ensures c.outputs.ensures

pub returns-clause-blocks : goal.returns-clause-blocks
returns-clause-blocks c =
    substituted_block c.args.slices c.sums-sums.result c.products.result c.inverses.result c.outputs.result c.requires c.sums-sums.ensures c.products.ensures c.inverses.ensures c.outputs.ensures
