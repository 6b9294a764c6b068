use Rattle.std.proofs.Common.{◌<◌, ◌^◌, ℕ, ◌∙◌, subst}
use Rattle.merkle.proofs.HeightLemmas.{height_low}
use Rattle.download_parts.proofs.file_trees.share_height.Goals as goal

pub returns-clause-low : goal.returns-clause-low
returns-clause-low c =
    let h = c.height.result in
    let least = subst (λ n. (k : ℕ) → k < h → 2 ^ k < n) (c.from.ensures ∙ c.total.ensures.value) c.height.ensures.least in
    height_low c.args.geometry.now.total h 8 c.total.ensures.valid.shares least
