use Rattle.std.proofs.Common.{◌≡◌, ◌∙◌, ◌<◌, ◌+◌, ℕ, List, length, subst, sym, arith}
use Rattle.download_supply.specs.Batch.{AreRaised, levels_of, part_of}
use Rattle.download_supply.proofs.LevelLemmas.{more_still, raised_more, same_part, tree_levels, tree_others, tree_part}
use Rattle.download_supply.proofs.PlanLemmas.{piece_grows}
use Rattle.download_supply.proofs.UpperLemmas.{same_over, tree_over}
use Rattle.download_supply.proofs.batch.Batch.ask_tree.Goals as goal

pub ask_level-requires-clause-parts : goal.ask_level-requires-clause-parts
ask_level-requires-clause-parts c = λ index low.
    let p = c.args.plan.now in
    let l = c.loop-level.level in
    let more = c.loop-level.invariant.more in
    let count = c.piece_count.ensures.value in
    let there : l < c.level_count-level-end.result = omega arith in
    same_part _ _ _ _ _ _ _ (c.requires.geometry ∙ sym more.geometry) (c.requires.first ∙ sym more.first) (sym more.end)
    (tree_part c.args.tree p.geometry p.first c.args.self.now.end l index
    (piece_grows p.geometry p.first p.end c.args.self.now.end (record { level = l; index = index }) c.requires.end
    (record { level = omega (arith, there, c.level_count-level-end.ensures.value); index = omega (arith, low, count) })))

pub ask_level-requires-clause-upper : goal.ask_level-requires-clause-upper
ask_level-requires-clause-upper c = λ index low.
    let p = c.args.plan.now in
    let l = c.loop-level.level in
    let now = c.loop-level.self in
    let was = c.loop-level.invariant in
    let count = c.piece_count.ensures.value in
    let there : l < c.level_count-level-end.result = omega arith in
    same_over p.geometry now.geometry p.first now.first now.reached (part_of c.args.tree l index)
    (c.requires.geometry ∙ sym was.more.geometry) (c.requires.first ∙ sym was.more.first)
    (tree_over c.args.tree p.geometry p.first p.end l index (levels_of c.args.tree c.args.self.now.reached) now.reached p.range
    (record { level = omega (arith, there, c.level_count-level-end.ensures.value); index = omega (arith, low, count) }) was.levels)

pub loop-level-preserved : goal.loop-level-preserved
loop-level-preserved c =
    let p = c.args.plan.now in
    let was = c.loop-level.invariant in
    let l = c.loop-level.level in
    let three : length (levels_of c.args.tree c.loop-level.self.reached) ≡ 3 = was.levels.count ∙ c.requires.levels in
    let there : l < c.level_count-level-end.result = omega arith in
    let levels = tree_levels c.args.tree c.loop-level.self.reached c.ask_level.new.self.reached _ c.in_ok-ask_level.ensures.reached in
    record {
      levels = subst (λ (n : List ℕ). AreRaised p.geometry p.first p.end (l + 1) (levels_of c.args.tree c.args.self.now.reached) n) levels
          (raised_more p.geometry p.first p.end l c.piece_count.result _ _ (omega (arith, three, there, c.level_count-level-end.ensures.range)) c.piece_count.ensures.value was.levels);
      others = tree_others c.args.tree c.args.self.now.reached c.loop-level.self.reached c.ask_level.new.self.reached _ was.others c.in_ok-ask_level.ensures.reached;
      more = more_still _ _ _ was.more c.in_ok-ask_level.ensures.more;
    }
