use Rattle.std.proofs.Common.{◌≡◌, ℕ, ◌+◌, ◌*◌, ◌%◌, List, ◌++◌, replicate, ap, subst, ◌∙◌, arith}
use Rattle.std.proofs.lemmas.List.{append_assoc, replicate-append-replicate, take-replicate}
use Rattle.tagged_hash.specs.Wholes.{IsGivenAt}
use Rattle.share_gathering.proofs.endings.add_zeros.Goals as goal

-- more zeros behind zeros
more_zeros : (given : List ℕ) (done n all : ℕ) → done + n ≡ all → (given ++ replicate done 0) ++ replicate n 0 ≡ given ++ replicate all 0
more_zeros given done n all is =
    append_assoc given (replicate done 0) (replicate n 0) ∙ ap (λ (zeros : List ℕ). given ++ zeros) (replicate-append-replicate done n 0 ∙ ap (λ m. replicate m 0) is)

pub loop-part-preserved : goal.loop-part-preserved
loop-part-preserved c = λ j given low holds.
    let done : ℕ = c.loop-part._part * 4096 in
    subst (IsGivenAt c.update_all.new.self j) (more_zeros given done 4096 ((c.loop-part._part + 1) * 4096) (omega arith))
    (c.update_all.ensures j (given ++ replicate done 0) low (c.loop-part.invariant j given low holds))

pub returns : goal.returns
returns c = λ j given low holds.
    let done : ℕ = c.loop-part._part * 4096 in
    let left : ℕ = c.args.len % 4096 in
    let all : done + left ≡ c.args.len = omega (arith, c.loop-part-test.false, c.loop-part.auto._part-end) in
    subst (IsGivenAt c.update_all-2.new.self j) (ap (λ (zeros : List ℕ). (given ++ replicate done 0) ++ zeros) (take-replicate left 4096 0 (omega arith)) ∙ more_zeros given done left c.args.len all)
    (c.update_all-2.ensures j (given ++ replicate done 0) low (c.loop-part.invariant j given low holds))
