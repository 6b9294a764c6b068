use Rattle.std.proofs.Common.{◌≡◌, ℕ, ◌<◌, List, [], Some, false, length, get_or, inl, inr, refl, ap, sym, subst, ◌∙◌, arith}
use Rattle.std.specs.Prelude.{slice_get}
use Rattle.std.proofs.lemmas.List.{get_or_default}
use Rattle.std.proofs.lemmas.Option.{slice_get_within}
use Rattle.share_source.specs.Candidates.{Candidates, HasLeaf, HoldsOwnLeaves, IsBlockRead, struck_out}
use Rattle.share_source.proofs.candidates.Candidates.ask.Goals as goal

pub returns-then-not-good-clause-refused : goal.returns-then-not-good-clause-refused
returns-then-not-good-clause-refused g c = λ _.
    let gives = g.B.ShareBytes.gives in
    let fails = g.B.ShareBytes.fails in
    let s = c.self.inside in
    let p : ℕ = c.args.position in
    let low : p < length s.held.items =
    omega (arith, slice_get_within c.args.self.now.struck p false c.requires.left, ap (λ (v : Candidates _). length v.struck) c.self.view_is, c.self.invariant.struck_count, c.self.invariant.held_count) in
    let tree : c.index.result.now ≡ get_or s.held.items p [] = c.index.ensures ∙ get_or_default s.held.items p c.index.result.now [] low in
    let old : Candidates _ = record { ueb = s.ueb; numbers = s.numbers.items; held = s.held.items; struck = s.struck.items; bytes = s.bytes } in
    let b = c.fetch-good.new.bytes in
    let came = c.fetch-good.ensures.refused c.if-not-good.true in
    let both = subst (λ (x : Candidates _). IsBlockRead gives fails c.args.place c.args.self.now p came.0 x × (x ≡ struck_out c.args.self.now p x.bytes)) (sym c.strike.ensures)
    (subst (λ (o : Candidates _). IsBlockRead gives fails c.args.place o p came.0 (struck_out old p b) × (struck_out old p b ≡ struck_out o p b)) c.self.view_is (
      record {
        left = ap (λ (v : Candidates _). slice_get v.struck p) c.self.view_is ∙ c.requires.left;
        holds = subst (λ (o : Candidates _). HoldsOwnLeaves o p) (sym c.self.view_is) c.requires.held;
        brought = came.1;
        judged = inr ((λ has. came.2 (subst (λ (l : List (List ℕ)). HasLeaf l c.args.place.segment came.0) (sym tree) has)), refl);
      },
      refl,
    )) in
    (came.0, both.0, both.1)

pub returns-else-not-good-clause-good : goal.returns-else-not-good-clause-good
returns-else-not-good-clause-good g c = λ yes.
    let gives = g.B.ShareBytes.gives in
    let fails = g.B.ShareBytes.fails in
    let s = c.self.inside in
    let p : ℕ = c.args.position in
    let low : p < length s.held.items =
    omega (arith, slice_get_within c.args.self.now.struck p false c.requires.left, ap (λ (v : Candidates _). length v.struck) c.self.view_is, c.self.invariant.struck_count, c.self.invariant.held_count) in
    let tree : c.index.result.now ≡ get_or s.held.items p [] = c.index.ensures ∙ get_or_default s.held.items p c.index.result.now [] low in
    let old : Candidates _ = record { ueb = s.ueb; numbers = s.numbers.items; held = s.held.items; struck = s.struck.items; bytes = s.bytes } in
    let b = c.fetch-good.new.bytes in
    let block : List ℕ = c.fetch-good.new.block in
    let good = c.fetch-good.ensures.good yes in
    let has = subst (λ (l : List (List ℕ)). HasLeaf l c.args.place.segment (Some block)) tree good.1 in
    subst (λ (o : Candidates _). IsBlockRead gives fails c.args.place o p (Some block) (record old { bytes = b }) × HasLeaf (get_or o.held p []) c.args.place.segment (Some block) × (record old { bytes = b } ≡ record o { bytes = b })) c.self.view_is (
      record {
        left = ap (λ (v : Candidates _). slice_get v.struck p) c.self.view_is ∙ c.requires.left;
        holds = subst (λ (o : Candidates _). HoldsOwnLeaves o p) (sym c.self.view_is) c.requires.held;
        brought = good.0;
        judged = inl (has, refl);
      },
      has,
      refl,
    )
