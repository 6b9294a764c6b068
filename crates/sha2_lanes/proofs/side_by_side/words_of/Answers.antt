use Rattle.std.proofs.Common.{◌≡◌, ◌*◌, ℕ, List, length, arith, below_more, ◌∙◌}
use Rattle.sha2_lanes.proofs.DigestLemmas.{row_is_lane}
use Rattle.sha2_lanes.proofs.Parts.{part_at, part_before}
use Rattle.sha2_lanes.proofs.side_by_side.words_of.Goals as goal

pub loop-j-preserved : goal.loop-j-preserved
loop-j-preserved c =
    let l = c.loop-j in
    let hashes : List ℕ = l.hashes in
    let room : length hashes ≡ 64 = omega arith in
    below_more _ _
    (λ k before. part_before (8 * l.j) _ hashes _ (8 * k) 8 (omega arith) (omega arith) ∙ l.invariant k before)
    (part_at (8 * l.j) _ hashes _ (8 * l.j) 0 8 (omega arith) (omega arith) (omega arith) ∙ c.copy_from_slice.ensures.after)

pub returns : goal.returns
returns c j below =
    c.loop-j.invariant j (omega arith)
    ∙ row_is_lane c.transposed-rows.result c.args.lanes j c.transposed-rows.ensures.vectors c.requires c.transposed-rows.ensures.lanes below
