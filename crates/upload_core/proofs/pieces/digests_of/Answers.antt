use Rattle.std.proofs.Common.{◌≡◌, ◌+◌, ◌-◌, ◌*◌, ◌++◌, ℕ, List, Vec, Global, length, map, min, take, drop, sym, ap, ◌∙◌, arith}
use Rattle.std.proofs.Math.Seq.{take-add}
use Rattle.tagged_hash.specs.TaggedHash.{share_digest}
use Rattle.upload_core.proofs.pieces.digests_of.Goals as goal

abbrev digest : Vec ℕ Global → List ℕ
digest share = share_digest share.items

pub loop-group-preserved : goal.loop-group-preserved
loop-group-preserved c =
    let ds : List (List ℕ) = map digest c.args.shares.now in
    let n : ℕ = length c.args.shares.now in
    let first : ℕ = 8 * c.loop-group.group in
    let end : ℕ = c.min.result in
    let low : min first n ≡ first = omega arith in
    let sum : first + (end - first) ≡ min (8 * (c.loop-group.group + 1)) n = omega arith in
    c.in_ok-add_group.ensures
    ∙ ap (λ (front : List (List ℕ)). front ++ take (end - first) (drop first ds)) (c.loop-group.invariant ∙ ap (λ (m : ℕ). take m ds) low)
    ∙ sym (take-add first (end - first) ds)
    ∙ ap (λ (m : ℕ). take m ds) sum
