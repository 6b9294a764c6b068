use Rattle.std.proofs.Common.{◌≢◌, ◌<◌, ◌++◌, ℕ, List, length, sym, subst, arith}
use Rattle.tagged_hash.specs.TaggedHasher.{Holds, HoldsIn}
use Rattle.tagged_hash.specs.declared.hasher.TaggedHasher.{TaggedHasher}
use Rattle.tagged_hash.proofs.Lanes.{placed, stays, taken}
use Rattle.tagged_hash.proofs.wholes.update_seven.Goals as goal

pub returns-clause-seven : goal.returns-clause-seven
returns-clause-seven c = λ j tag given low held.
    let apart : j ≢ 7 = omega (arith, low) in
    stays c.update_eight.new.hashers 7 j _ tag _ apart
    (subst (λ (piece : List ℕ). HoldsIn c.update_eight.new.hashers j tag (given ++ piece)) (c.with_last.ensures.others j low)
    (c.update_eight.ensures j tag given (omega (arith, low)) (stays c.args.hashers.now 7 j _ tag given apart held)))

pub returns-clause-other : goal.returns-clause-other
returns-clause-other c = λ tag given held.
    let low : 7 < length c.args.hashers.now = omega (arith, c.told-hashers) in
    let here = c.update_eight.ensures 7 tag given (omega arith) (placed c.args.hashers.now 7 _ tag given low (subst (λ (h : TaggedHasher). Holds h tag given) (sym c.swap.ensures.x_after) held)) in
    taken c.update_eight.new.hashers 7 c.swap-2.new.y _ tag (given ++ c.args.piece.now) c.swap-2.ensures.y_after
    (subst (λ (piece : List ℕ). HoldsIn c.update_eight.new.hashers 7 tag (given ++ piece)) c.with_last.ensures.last here)
