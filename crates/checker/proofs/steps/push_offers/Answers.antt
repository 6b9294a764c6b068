use Rattle.std.proofs.Common.{◌<◌, ◌≤◌, ◌+◌, ◌∙◌, take, ap, sym, subst, Vec, Global}
use Rattle.checker.specs.Book.{ArePushed}
use Rattle.checker.specs.declared.offers.Offer.{Offer}
use Rattle.checker.proofs.Joining.{pushed_all, pushed_more, pushed_none, pushed_same}
use Rattle.checker.proofs.steps.push_offers.Goals.{then-from-total+in_ok-push, else-from-total}
use Rattle.checker.proofs.steps.push_offers.Goals as goal

pub loop-share-init : goal.loop-share-init
loop-share-init c = pushed_none c.args.keeps c.args.total c.args.server c.args.held.now c.args.offers.now.items

pub loop-share-preserved : goal.loop-share-preserved
loop-share-preserved c = elim c.if-from-total.branch [
  | then-from-total+in_ok-push w ↦
      pushed_more c.args.keeps c.args.total c.args.server c.args.held.now c.loop-share.share-index _ c.args.offers.now.items c.loop-share.offers.items c.if-from-total.offers.items _
      c.loop-share-test.true (subst (λ n. n < c.args.total) c.from.ensures w.if-from-total.true) c.loop-share.invariant (ap (λ (v : Vec Offer Global). v.items) w.offers-is ∙ w.in_ok-push.ensures.items)
      w.new.ensures.new (λ i. (w.new.ensures.server i, w.new.ensures.share i))
  | else-from-total w ↦
      subst (λ (v : Vec Offer Global). ArePushed c.args.keeps c.args.total c.args.server (take (c.loop-share.share-index + 1) c.args.held.now) c.args.offers.now.items v.items) (sym w.offers-is)
      (pushed_same c.args.keeps c.args.total c.args.server c.args.held.now c.loop-share.share-index _ c.args.offers.now.items c.loop-share.offers.items c.loop-share-test.true
      (subst (λ n. c.args.total ≤ n) c.from.ensures w.if-from-total.false) c.loop-share.invariant)
]

pub returns : goal.returns
returns c = pushed_all c.args.keeps c.args.total c.args.server c.args.held.now c.loop-share.share-index c.args.offers.now.items c.loop-share.offers.items c.loop-share-test.false c.loop-share.invariant
