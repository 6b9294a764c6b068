use Rattle.std.proofs.Common.{◌≡◌, ℕ, ◌+◌, ◌*◌, ◌<◌, ◌≤◌, List, ◌++◌, length, drop, take, ap, subst, ◌∙◌, arith}
use Rattle.std.proofs.lemmas.Grind.{div_ceil_times}
use Rattle.std.proofs.lemmas.List.{length-set, take_all}
use Rattle.std.proofs.lemmas.Option.{slice_get-get_or}
use Rattle.std.proofs.lemmas.Result.{on_ok_weaker}
use Rattle.share_layout.specs.Geometry.{Geometry, block_size}
use Rattle.tagged_hash.specs.Wholes.{IsGivenAt}
use Rattle.share_gathering.specs.Groups.{row_of}
use Rattle.share_gathering.specs.Shares.{HaveBlocksMore, HavePieceMore}
use Rattle.share_gathering.specs.declared.groups.Group.{Group}
use Rattle.share_gathering.proofs.FewBlocks.{by-rows}
use Rattle.share_gathering.proofs.GroupSteps.{group_long}
use Rattle.share_gathering.proofs.Rows.{has_row, row-short}
use Rattle.share_gathering.proofs.ShareBlocks.{so_far-all, so_far-more, so_far-none}
use Rattle.share_gathering.proofs.shares.add_few.Goals as goal

pub returns-clause-shares : goal.returns-clause-shares
returns-clause-shares c =
    let group : Group = c.args.group in
    let rows : ℕ → List ℕ = row_of c.args.geometry.now group (take group.len c.args.segments.now) in
    let lanes : ℕ → List ℕ = λ i. take group.row (drop (i * group.row) c.encode_rows.new.lanes) in
    on_ok_weaker c.add_blocks.result
    (λ more. subst (λ n. HaveBlocksMore group.count n rows c.args.shares.now c.add_blocks.new.shares) c.block_size-size.ensures.value
    (by-rows group.count c.block_size-size.result lanes rows c.args.shares.now c.add_blocks.new.shares more
    (λ i low. let same : 0 + i ≡ i = omega arith in c.encode_rows.ensures i low ∙ ap rows same)))
    c.add_blocks.ensures.shares

pub returns-clause-wholes : goal.returns-clause-wholes
returns-clause-wholes c =
    let g : Geometry = c.args.geometry.now in
    let group : Group = c.args.group in
    let text : List ℕ = take group.len c.args.segments.now in
    let rows : ℕ → List ℕ = row_of g group text in
    let size : ℕ = c.block_size-size.result in
    let long : length text ≡ group.len = group_long g group c.args.segments.now c.requires.can.group c.requires.can.segments_long in
    let groups = div_ceil_times g.total 7 (omega arith) in
    let one : length c.args.wholes.now ≤ 1 = omega (arith, c.requires.can.wholes, c.requires.few, groups.1) in
    let some : 0 < length c.args.wholes.now = omega (arith, c.requires.can.wholes, c.requires.can.group.valid.some_needed, c.requires.can.group.valid.enough, groups.0) in
    on_ok_weaker c.add_blocks.result (λ gives. so_far-all _ _ _ _
    (so_far-more (HavePieceMore g.total rows) c.args.wholes.now c.args.wholes.now 0 _ c.add_blocks.new.whole (so_far-none (HavePieceMore g.total rows) c.args.wholes.now) some
    (slice_get-get_or c.args.wholes.now 0 _ some)
    (λ j given below inside was.
    let low : j < 3 = omega (arith, inside, c.requires.few) in
    let there : j < length c.args.shares.now = omega (arith, inside, c.requires.can.shares) in
    let same : 0 + j ≡ 7 * 0 + j = omega arith in
    let times : group.count * size ≡ group.count * block_size g = ap (λ n. group.count * n) c.block_size-size.ensures.value in
    let fits : length (rows (0 + j)) ≤ group.count * size = omega (arith, (has_row g group text (0 + j) c.requires.can.group long).size, row-short g group c.requires.can.group, times) in
    subst (λ (piece : List ℕ). IsGivenAt c.add_blocks.new.whole j (given ++ piece))
    (ap (take (group.count * size)) (c.encode_rows.ensures j there) ∙ take_all (group.count * size) (rows (0 + j)) fits ∙ ap rows same)
    (gives j given low was)))
    (omega (arith, one, length-set c.args.wholes.now 0 c.add_blocks.new.whole)))
    c.add_blocks.ensures.whole
