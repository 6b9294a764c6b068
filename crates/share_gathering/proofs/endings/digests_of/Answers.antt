use Rattle.std.proofs.Common.{◌≡◌, ℕ, ◌++◌, List, length, map, ap, subst, sym, ◌∙◌, arith}
use Rattle.std.specs.List.{range_with_len}
use Rattle.std.proofs.lemmas.Result.{IfOk-weaker}
use Rattle.tagged_hash.specs.TaggedHash.{tagged_hash}
use Rattle.tagged_hash.specs.declared.tag.Tag.TheVariants.{WholeShare}
use Rattle.tagged_hash.specs.Wholes.{AreGiven}
use Rattle.share_gathering.specs.Finishing.{bytes_behind}
use Rattle.share_gathering.proofs.endings.digests_of.Goals as goal

pub returns : goal.returns
returns c = λ written given.
    let n : c.from.result ≡ c.args.geometry.now.total = c.from.ensures ∙ c.total.ensures.value in
    IfOk-weaker c.finish_digests.result _ _ (λ digests is.
    is ∙ ap (λ (k : ℕ). map (λ i. tagged_hash WholeShare (written i ++ bytes_behind c.args.geometry.now c.args.behind.now i)) (range_with_len 0 k)) n)
    (c.finish_digests.ensures written (subst (λ (k : ℕ). AreGiven k written c.args.wholes.items) (sym n) given))
