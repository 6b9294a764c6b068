use Rattle.std.proofs.Common.{ℕ, ◌<◌, List, Bool, true, length, get_or, set, inl, inr, ap, sym, subst, ◌∙◌, arith}
use Rattle.std.proofs.lemmas.Bool.{cases_eq}
use Rattle.std.proofs.lemmas.List.{get_or_default}
use Rattle.share_source.specs.Candidates.{Candidates, HoldsOwnLeaves}
use Rattle.share_source.specs.Reading.{StayStruck, unstruck_count}
use Rattle.share_source.proofs.Holding.{trees_both}
use Rattle.share_source.proofs.Striking.{left_fewer, stay_struck}
use Rattle.share_source.proofs.candidates.Candidates.hold_leaves.Goals as goal

pub returns-in_err-hold_tree-clause-read : goal.returns-in_err-hold_tree-clause-read
returns-in_err-hold_tree-clause-read g c =
    trees_both g.B.ShareBytes.gives g.B.ShareBytes.fails c.args.self.now c.loop-i.self c.hold_tree.new.self c.loop-i.invariant.read c.in_err-hold_tree.ensures.read

pub returns-then-not-branch-clause-struck : goal.returns-then-not-branch-clause-struck
returns-then-not-branch-clause-struck g c =
    let p : ℕ = get_or c.args.positions.now c.loop-i.i 0 in
    let low : c.loop-i.i < length c.args.positions.now = omega (arith, c.loop-i-test.true, c.loop-i.auto.i-end) in
    subst (StayStruck c.args.self.now.struck) (sym (c.in_ok-hold_tree.ensures.refused c.if-not-branch.true ∙ ap (λ (s : List Bool). set s p true) c.loop-i.invariant.struck))
    (stay_struck c.args.self.now.struck p (c.requires.left c.loop-i.i 0 low))

pub returns-then-not-branch-clause-read : goal.returns-then-not-branch-clause-read
returns-then-not-branch-clause-read g c =
    trees_both g.B.ShareBytes.gives g.B.ShareBytes.fails c.args.self.now c.loop-i.self c.hold_tree.new.self c.loop-i.invariant.read c.in_ok-hold_tree.ensures.read

pub returns-then-not-branch-clause-refused : goal.returns-then-not-branch-clause-refused
returns-then-not-branch-clause-refused g c = λ _.
    let p : ℕ = get_or c.args.positions.now c.loop-i.i 0 in
    let low : c.loop-i.i < length c.args.positions.now = omega (arith, c.loop-i-test.true, c.loop-i.auto.i-end) in
    subst (λ (s : List Bool). unstruck_count s < unstruck_count c.args.self.now.struck)
    (sym (c.in_ok-hold_tree.ensures.refused c.if-not-branch.true ∙ ap (λ (s : List Bool). set s p true) c.loop-i.invariant.struck))
    (left_fewer c.args.self.now.struck p (c.requires.left c.loop-i.i 0 low))

pub loop-i-preserved : goal.loop-i-preserved
loop-i-preserved g c =
    let k = c.loop-i.invariant in
    let positions : List ℕ = c.args.positions.now in
    let more = c.in_ok-hold_tree.ensures in
    let good = more.good c.if-not-branch.false in
    let new : Candidates _ = c.hold_tree.new.self in
    record {
      read = trees_both g.B.ShareBytes.gives g.B.ShareBytes.fails c.args.self.now c.loop-i.self new k.read more.read;
      ueb = more.ueb ∙ k.ueb;
      numbers = more.numbers ∙ k.numbers;
      struck = good.0 ∙ k.struck;
      held = λ j below. elim (cases_eq j c.loop-i.i) [
        | inl e ↦ subst (λ (n : ℕ). HoldsOwnLeaves new (get_or positions n 0)) (sym e) good.1
        | inr apart ↦ more.stay c.if-not-branch.false (get_or positions j 0) (k.held j (omega (arith, below, apart)))
      ];
    }

pub returns-clause-held : goal.returns-clause-held
returns-clause-held g c = λ _ j d low.
    let positions : List ℕ = c.args.positions.now in
    subst (λ (n : ℕ). HoldsOwnLeaves c.loop-i.self n) (get_or_default positions j 0 d low)
    (c.loop-i.invariant.held j (omega (arith, low, c.loop-i-test.false, c.loop-i.auto.i-end)))
