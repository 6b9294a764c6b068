use Rattle.std.proofs.Common.{◌≡◌, ℕ, ◌+◌, ◌-◌, ◌*◌, ◌<◌, ◌≤◌, List, ◌++◌, length, drop, min, take, ap, subst, sym, ◌∙◌, arith}
use Rattle.std.proofs.lemmas.Grind.{div_ceil_times}
use Rattle.std.proofs.Math.Seq.{take-add}
use Rattle.std.proofs.lemmas.List.{append_assoc, length-drop, take-append-drop, take_all}
use Rattle.std.proofs.lemmas.Option.{slice_get-get_or}
use Rattle.std.specs.Int.{div_ceil}
use Rattle.tagged_hash.specs.TaggedHasher.{Holds}
use Rattle.share_gathering.specs.Groups.{row_of}
use Rattle.share_gathering.specs.Shares.{HasBlocksMore, HaveBlocksMore, HavePieceMore}
use Rattle.tagged_hash.specs.Wholes.{IsGivenAt}
use Rattle.share_gathering.specs.declared.groups.Group.{Group}
use Rattle.share_gathering.specs.declared.shares.ShareSoFar.{ShareSoFar}
use Rattle.share_gathering.proofs.GroupSteps.{has_first, has_offset}
use Rattle.share_gathering.proofs.ShareBlocks.{HaveSoFar, same_blocks, so_far-all, so_far-group, so_far-more}
use Rattle.share_gathering.proofs.shares.add_sevens.Goals as goal

pub add_rows-requires-clause-at_once : goal.add_rows-requires-clause-at_once
add_rows-requires-clause-at_once c = (has_offset c.args.geometry.now c.args.group 0 c.requires.group (has_first c.args.geometry.now c.args.group c.requires.group)).few

pub loop-seven-preserved : goal.loop-seven-preserved
loop-seven-preserved c =
    let group : Group = c.args.group in
    let leaves : ℕ = group.count in
    let size : ℕ = c.block_size-size.result in
    let rows : ℕ → List ℕ = row_of c.args.geometry.now group (take group.len c.args.segments.now) in
    let old : List ShareSoFar = c.args.shares.now in
    let now : List ShareSoFar = c.loop-seven.shares in
    let total : ℕ = length old in
    let given : ℕ = c.loop-seven.given in
    let beside : List ℕ = c.args.beside.now in
    let n : ℕ = c.loop-seven.seven in
    let first : ℕ = 7 * n in
    let count : ℕ = c.min-end.result - first in
    let groups = div_ceil_times total 7 (omega arith) in
    let low : first ≤ total = omega (arith, c.loop-seven-test.true, c.loop-seven.auto.seven-end, c.div_ceil-seven-end.ensures, groups.1) in
    let within : first + count ≤ length now = omega (arith, low, c.min-end.ensures, c.loop-seven.auto.shares) in
    let here : min first total ≡ first = omega (arith, low) in
    let next : first + count ≡ min (7 * (n + 1)) total = omega (arith, low, c.min-end.ensures, c.loop-seven.auto.shares) in
    let all : length c.args.wholes.now ≡ div_ceil total 7 = c.requires.wholes ∙ ap (λ m. div_ceil m 7) (sym c.requires.shares) in
    let many : n < length c.loop-seven.wholes = omega (arith, c.loop-seven-test.true, c.loop-seven.auto.seven-end, c.div_ceil-seven-end.ensures, all, c.loop-seven.auto.wholes) in
    let tail : take (length beside - given) (drop given beside) ≡ drop given beside = take_all (length beside - given) (drop given beside) (omega (arith, length-drop given beside)) in
    record {
      shares =
          subst (HaveSoFar (HasBlocksMore leaves size rows) old _) next
          (so_far-group leaves size rows old now c.add_rows.new.shares first count within (subst (HaveSoFar (HasBlocksMore leaves size rows) old now) here c.loop-seven.invariant.shares)
          (same_blocks leaves size rows old now c.add_rows.new.shares first count within _ c.encode_rows.ensures c.in_ok-add_rows.ensures));
      wholes =
          so_far-more (HavePieceMore c.args.geometry.now.total rows) c.args.wholes.now c.loop-seven.wholes n _ c.update_beside-given.new.self c.loop-seven.invariant.wholes many
          (slice_get-get_or c.loop-seven.wholes n _ many)
          (λ j given below inside was.
          let lane : j < count = omega (arith, inside, below, c.min-end.ensures, c.loop-seven.auto.shares, c.requires.shares) in
          subst (λ (piece : List ℕ). IsGivenAt c.update_beside-given.new.self j (given ++ piece)) (c.all_lanes-blocks.ensures j (omega (arith, below)) ∙ c.encode_rows.ensures j lane)
          (c.update_beside-given.ensures.shares j given below was));
      within = omega (arith, c.update_beside-given.ensures.within, ap length tail, length-drop given beside, c.loop-seven.invariant.within);
      other = λ tag text held.
          subst (λ (t : List ℕ). Holds c.update_beside-given.new.other tag (text ++ t)) (sym (take-add given c.update_beside-given.result beside))
          (subst (Holds c.update_beside-given.new.other tag) (append_assoc text (take given beside) (take c.update_beside-given.result (drop given beside)))
          (subst (λ (l : List ℕ). Holds c.update_beside-given.new.other tag ((text ++ take given beside) ++ take c.update_beside-given.result l)) tail
          (c.update_beside-given.ensures.other tag (text ++ take given beside) (c.loop-seven.invariant.other tag text held))));
    }

pub returns-clause-shares : goal.returns-clause-shares
returns-clause-shares c =
    let group : Group = c.args.group in
    let rows : ℕ → List ℕ = row_of c.args.geometry.now group (take group.len c.args.segments.now) in
    let all = (div_ceil_times (length c.args.shares.now) 7 (omega arith)).0 in
    subst (λ n. HaveBlocksMore group.count n rows c.args.shares.now c.loop-seven.shares) c.block_size-size.ensures.value
    (so_far-all _ _ _ _ c.loop-seven.invariant.shares (omega (arith, c.loop-seven-test.false, c.loop-seven.auto.seven-end, c.div_ceil-seven-end.ensures, c.loop-seven.auto.shares, all)))

pub returns-clause-wholes : goal.returns-clause-wholes
returns-clause-wholes c =
    let all : length c.args.wholes.now ≡ div_ceil (length c.args.shares.now) 7 = c.requires.wholes ∙ ap (λ m. div_ceil m 7) (sym c.requires.shares) in
    so_far-all _ _ _ _ c.loop-seven.invariant.wholes (omega (arith, c.loop-seven-test.false, c.loop-seven.auto.seven-end, c.div_ceil-seven-end.ensures, c.loop-seven.auto.wholes, all))

pub returns-clause-other : goal.returns-clause-other
returns-clause-other c = λ tag text held.
    let given : ℕ = c.loop-seven.given in
    let beside : List ℕ = c.args.beside.now in
    let tail : take (length beside - given) (drop given beside) ≡ drop given beside = take_all (length beside - given) (drop given beside) (omega (arith, length-drop given beside)) in
    subst (λ (t : List ℕ). Holds c.update.new.self tag (text ++ t)) (take-append-drop given beside)
    (subst (Holds c.update.new.self tag) (append_assoc text (take given beside) (drop given beside))
    (subst (λ (l : List ℕ). Holds c.update.new.self tag ((text ++ take given beside) ++ l)) tail
    (c.update.ensures tag (text ++ take given beside) (c.loop-seven.invariant.other tag text held))))
