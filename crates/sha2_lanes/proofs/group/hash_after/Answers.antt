use Rattle.std.proofs.Common.{◌≡◌, ◌*◌, ℕ, List, take, drop, refl, sym, ap, ◌∙◌, arith}
use Rattle.sha2.specs.Sha256.{compress, hash_after}
use Rattle.sha2.proofs.Absorbing256.{hash_after_next}
use Rattle.sha2_lanes.proofs.group.hash_after.Goals as goal

pub loop-j-init : goal.loop-j-init
unfolding hash_after
loop-j-init c = refl

pub loop-j-preserved : goal.loop-j-preserved
loop-j-preserved c =
    let g : List ℕ = c.args.group.now in
    let l = c.loop-j in
    let block : List ℕ = take 64 (drop (l.j * 64) g) in
    c.compress-next.ensures block (c.make_schedules.ensures.lanes l.j (omega arith))
    ∙ ap (λ (h : List ℕ). compress h block) l.invariant
    ∙ sym (hash_after_next c.args.hash g l.j)

pub returns : goal.returns
returns c =
    let count : c.loop-j.j ≡ c.args.count = omega arith in
    c.loop-j.invariant ∙ ap (hash_after c.args.hash c.args.group.now) count
