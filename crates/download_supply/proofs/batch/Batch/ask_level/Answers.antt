use Rattle.std.proofs.Common.{◌∙◌, ◌<◌, subst, sym, arith}
use Rattle.std.specs.Prelude.{slice_set}
use Rattle.download_parts.specs.declared.part.Part.{Part}
use Rattle.download_supply.specs.Batch.{levels_of, part_of, with_levels}
use Rattle.download_supply.specs.Cursors.{passed}
use Rattle.download_supply.specs.Upper.{HasOverPassed}
use Rattle.download_supply.specs.declared.cursors.Cursors.{Cursors}
use Rattle.download_supply.proofs.LevelLemmas.{level_step, more_still}
use Rattle.download_supply.proofs.UpperLemmas.{level_over, same_over}
use Rattle.download_supply.proofs.batch.Batch.ask_level.Goals as goal

pub ask-requires-clause-upper : goal.ask-requires-clause-upper
ask-requires-clause-upper c =
    let was = c.args.self.now in
    let now = c.loop-index.self in
    let so = c.loop-index.invariant in
    let index = c.loop-index.index in
    let level = c.args.level in
    let low : index < c.args.count = omega arith in
    let over = level_over c.args.tree was.geometry was.first was.reached level index index (c.requires.upper index low) in
    subst (λ (p : Part). HasOverPassed now.geometry now.first now.reached p) (sym c.part.ensures)
    (subst (λ (k : Cursors). HasOverPassed now.geometry now.first k (part_of c.args.tree level index)) (sym so.reached)
    (same_over was.geometry now.geometry was.first now.first (with_levels c.args.tree was.reached (slice_set (levels_of c.args.tree was.reached) level index)) (part_of c.args.tree level index) (sym so.more.geometry) (sym so.more.first) over))

pub loop-index-preserved : goal.loop-index-preserved
loop-index-preserved c = record {
  reached = c.in_ok-ask.ensures.reached ∙ (λ i. passed (c.loop-index.invariant.reached i) (c.part.ensures i))
      ∙ level_step c.args.tree c.args.self.now.reached c.args.level c.loop-index.index;
  upto = omega arith;
  behind = omega arith;
  more = more_still _ _ _ c.loop-index.invariant.more c.in_ok-ask.ensures.more;
}
