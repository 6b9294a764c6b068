use Rattle.std.proofs.Common.{◌≡◌, ℕ, ◌<◌, [], false, length, get_or, inl, inr, refl, ap, sym, subst, ◌∙◌, arith, true≢false}
use Rattle.std.proofs.lemmas.List.{get_or_default}
use Rattle.std.proofs.lemmas.Option.{slice_get_within}
use Rattle.std.proofs.lemmas.Result.{IfOk-weaker}
use Rattle.share_source.specs.Leaves.{AreLeavesOf}
use Rattle.share_source.specs.Candidates.{Candidates, HoldsOwnLeaves}
use Rattle.share_source.proofs.Holding.{tree_any, tree_holds, tree_stays}
use Rattle.share_source.proofs.candidates.Candidates.hold_tree.Goals as goal

pub returns-then-is_none-clause-read : goal.returns-then-is_none-clause-read
returns-then-is_none-clause-read g c =
    tree_any g.B.ShareBytes.gives g.B.ShareBytes.fails c.read_tree.result c.args.self.now c.read_tree.new.self c.args.position c.read_tree.ensures.good c.read_tree.ensures.refused c.read_tree.ensures.err

pub returns-then-is_none-clause-good : goal.returns-then-is_none-clause-good
returns-then-is_none-clause-good g c =
    let old : Candidates _ = c.args.self.now in
    let p : ℕ = c.args.position in
    let low : p < length old.held =
    omega (arith, slice_get_within old.struck p false c.requires.left, ap (λ (v : Candidates _). length v.struck) c.self.view_is, ap (λ (v : Candidates _). length v.held) c.self.view_is, c.self.invariant.struck_count, c.self.invariant.held_count) in
    IfOk-weaker c.read_tree.result _ _
    (λ good is yes. (let r = is yes in (ap (λ (x : Candidates _). x.struck) r.1.brought.2, tree_holds g.B.ShareBytes.gives g.B.ShareBytes.fails old c.read_tree.new.self p r.0 r.1 low))) c.read_tree.ensures.good

pub returns-then-is_none-clause-stay : goal.returns-then-is_none-clause-stay
returns-then-is_none-clause-stay g c =
    let old : Candidates _ = c.args.self.now in
    let p : ℕ = c.args.position in
    let low : p < length old.held =
    omega (arith, slice_get_within old.struck p false c.requires.left, ap (λ (v : Candidates _). length v.struck) c.self.view_is, ap (λ (v : Candidates _). length v.held) c.self.view_is, c.self.invariant.struck_count, c.self.invariant.held_count) in
    IfOk-weaker c.read_tree.result _ _ (λ good is yes. (let r = is yes in tree_stays g.B.ShareBytes.gives g.B.ShareBytes.fails old c.read_tree.new.self p r.0 r.1 low)) c.read_tree.ensures.good

pub returns-else-is_none-clause-good : goal.returns-else-is_none-clause-good
returns-else-is_none-clause-good g c = λ _.
    let s = c.self.inside in
    let p : ℕ = c.args.position in
    let low : p < length s.held.items =
    omega (arith, slice_get_within c.args.self.now.struck p false c.requires.left, ap (λ (v : Candidates _). length v.struck) c.self.view_is, c.self.invariant.struck_count, c.self.invariant.held_count) in
    let tree : c.index.result.now ≡ get_or s.held.items p [] = c.index.ensures ∙ get_or_default s.held.items p c.index.result.now [] low in
    let own : AreLeavesOf s.ueb (get_or s.numbers.items p 0) (get_or s.held.items p []) = elim (c.self.invariant.leaves p) [
      | inl none ↦ absurd (true≢false (sym (c.is_none.ensures.1 (tree ∙ none)) ∙ c.if-is_none.false))
      | inr is ↦ is
    ] in
    (refl, subst (λ (o : Candidates _). HoldsOwnLeaves o p) c.self.view_is own)
