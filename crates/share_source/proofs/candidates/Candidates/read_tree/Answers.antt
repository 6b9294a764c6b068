use Rattle.std.proofs.Common.{◌≡◌, ℕ, ◌<◌, List, [], Some, None, false, length, get_or, set, inr, refl, ap, sym, subst, ◌∙◌, arith}
use Rattle.std.specs.Prelude.{slice_get}
use Rattle.std.proofs.lemmas.List.{get_or_default}
use Rattle.std.proofs.lemmas.Option.{slice_get_within}
use Rattle.share_source.specs.Leaves.{AreLeavesOf, AreNoLeaves}
use Rattle.share_source.specs.Candidates.{AreLeavesRead, Candidates, struck_out}
use Rattle.share_source.proofs.Holding.{held_set}
use Rattle.share_source.proofs.candidates.Candidates.read_tree.Goals as goal

pub invariant_of-self-in-Some : goal.invariant_of-self-in-Some
invariant_of-self-in-Some g c =
    let s = c.self.inside in
    let p : ℕ = c.args.position in
    let low : p < length s.numbers.items = omega (arith, slice_get_within c.args.self.now.struck p false c.requires.left, ap (λ (v : Candidates _). length v.struck) c.self.view_is, c.self.invariant.struck_count) in
    let number : c.index-number.result.now ≡ get_or s.numbers.items p 0 = c.index-number.ensures ∙ get_or_default s.numbers.items p c.index-number.result.now 0 low in
    held_set s.ueb s.numbers.items s.held.items s.struck.items p c.of.result c.self.invariant low
    (inr (subst (λ (l : List (List ℕ)). AreLeavesOf s.ueb (get_or s.numbers.items p 0) l) (sym c.of.ensures)
    (subst (λ (n : ℕ). AreLeavesOf s.ueb n c.in-Some.leaves.items) number (rw c.in-Some.is at c.in_ok-leaves.ensures.leaves))))

pub strike-requires : goal.strike-requires
strike-requires g c =
    omega (arith, slice_get_within c.args.self.now.struck c.args.position false c.requires.left, ap (λ (v : Candidates _). length v.struck) c.self.view_is, c.self.invariant.struck_count)

pub returns-in-Some-clause-good : goal.returns-in-Some-clause-good
returns-in-Some-clause-good g c = λ _.
    let s = c.self.inside in
    let p : ℕ = c.args.position in
    let low : p < length s.numbers.items = omega (arith, slice_get_within c.args.self.now.struck p false c.requires.left, ap (λ (v : Candidates _). length v.struck) c.self.view_is, c.self.invariant.struck_count) in
    let number : c.index-number.result.now ≡ get_or s.numbers.items p 0 = c.index-number.ensures ∙ get_or_default s.numbers.items p c.index-number.result.now 0 low in
    let old : Candidates _ = record { ueb = s.ueb; numbers = s.numbers.items; held = s.held.items; struck = s.struck.items; bytes = s.bytes } in
    let told : AreLeavesOf s.ueb (get_or s.numbers.items p 0) c.of.result = subst (λ (l : List (List ℕ)). AreLeavesOf s.ueb (get_or s.numbers.items p 0) l) (sym c.of.ensures)
    (subst (λ (n : ℕ). AreLeavesOf s.ueb n c.in-Some.leaves.items) number (rw c.in-Some.is at c.in_ok-leaves.ensures.leaves)) in (
      c.of.result,
      subst (λ (x : Candidates _). AreLeavesRead g.B.ShareBytes.gives g.B.ShareBytes.fails x p (Some c.of.result) (record old { held = set s.held.items p c.of.result; bytes = c.read_leaves.new.bytes })) c.self.view_is
          (record {
            left = ap (λ (v : Candidates _). slice_get v.struck p) c.self.view_is ∙ c.requires.left;
            none = ap (λ (v : Candidates _). get_or v.held p []) c.self.view_is ∙ c.requires.none;
            brought = (c.in_ok-leaves.ensures.reads, told, refl);
          }),
    )

pub returns-in-None-clause-refused : goal.returns-in-None-clause-refused
returns-in-None-clause-refused g c = λ _.
    let gives = g.B.ShareBytes.gives in
    let fails = g.B.ShareBytes.fails in
    let s = c.self.inside in
    let p : ℕ = c.args.position in
    let low : p < length s.numbers.items = omega (arith, slice_get_within c.args.self.now.struck p false c.requires.left, ap (λ (v : Candidates _). length v.struck) c.self.view_is, c.self.invariant.struck_count) in
    let number : c.index-number.result.now ≡ get_or s.numbers.items p 0 = c.index-number.ensures ∙ get_or_default s.numbers.items p c.index-number.result.now 0 low in
    let old : Candidates _ = record { ueb = s.ueb; numbers = s.numbers.items; held = s.held.items; struck = s.struck.items; bytes = s.bytes } in
    let none = subst (λ (n : ℕ). AreNoLeaves gives fails s.ueb p n s.bytes c.read_leaves.new.bytes) number (rw c.in-None.is at c.in_ok-leaves.ensures.none) in
    subst (λ (x : Candidates _). AreLeavesRead gives fails c.args.self.now p None x) (sym c.strike.ensures)
    (subst (λ (o : Candidates _). AreLeavesRead gives fails o p None (struck_out old p c.read_leaves.new.bytes)) c.self.view_is
    (record {
      left = ap (λ (v : Candidates _). slice_get v.struck p) c.self.view_is ∙ c.requires.left;
      none = ap (λ (v : Candidates _). get_or v.held p []) c.self.view_is ∙ c.requires.none;
      brought = (none, refl);
    }))
