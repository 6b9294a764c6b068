use Rattle.std.proofs.Common.{◌≡◌, ◌+◌, ◌∷◌, [], slice_index_or, arith}
use Rattle.tagged_hash.specs.TaggedHash.{tagged_hash}
use Rattle.tagged_hash.specs.TaggedHasher.{HoldsIn}
use Rattle.tagged_hash.specs.declared.tag.Tag.TheVariants.{Block}
use Rattle.tagged_hash.proofs.Lanes.{by_three}
use Rattle.tagged_hash.proofs.wholes.finish_blocks.Goals as goal

pub returns-clause-blocks : goal.returns-clause-blocks
returns-clause-blocks c = λ j given low held.
    by_three (λ q. HoldsIn c.args.hashers.now (3 + q) Block given
    → slice_index_or (c.finish_at.result ∷ c.finish_at-2.result ∷ c.finish_at-3.result ∷ []) q [] ≡ tagged_hash Block given)
    (λ h. c.finish_at.ensures.hash Block given h)
    (λ h. c.finish_at-2.ensures.hash Block given (c.finish_at.ensures.others 4 Block given (omega arith) h))
    (λ h. c.finish_at-3.ensures.hash Block given (c.finish_at-2.ensures.others 5 Block given (omega arith) (c.finish_at.ensures.others 5 Block given (omega arith) h)))
    j low held
