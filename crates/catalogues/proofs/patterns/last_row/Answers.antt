use Rattle.std.proofs.Common.{Bool, [], ◌∷◌, ◌&&◌, ◌==◌, ap, append-nil, length, sym, ◌∙◌}
use Rattle.catalogues.proofs.PatternLaws.{cut_last, long_more, none_taken, row_begun, row_more, stars_taken}
use Rattle.catalogues.proofs.patterns.last_row.Goals as goal

pub loop-x-init : goal.loop-x-init
loop-x-init c = (
  [],
  sym (append-nil c.args.pattern.now),
  ap length c.in_ok-row.ensures.items,
  sym none_taken,
  row_begun _ [] _ c.in_ok-row.ensures.items (sym none_taken),
)

pub loop-x-preserved : goal.loop-x-preserved
loop-x-preserved c =
    let so_far = c.loop-x.invariant in
    let x = c.in-Some.x.now in
    let is = c.are_stars-stars.ensures ∙ ap (λ (b : Bool). (x == 42) && b) so_far.3 ∙ stars_taken x so_far.0 in (
      x ∷ so_far.0,
      cut_last c.args.pattern.now c.loop-x.left.now so_far.0 c.in-Some.before.now x so_far.1 c.in-Some.ensures.cases.0,
      long_more c.loop-x.row.items _ so_far.0 x _ c.in_ok-push.ensures.items so_far.2,
      is,
      row_more c.loop-x.row.items _ [] so_far.0 x _ c.in_ok-push.ensures.items so_far.2 so_far.4 is,
    )
