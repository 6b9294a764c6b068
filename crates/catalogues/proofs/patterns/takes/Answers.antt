use Rattle.std.proofs.Common.{Bool, List, [], ℕ, ◌≡◌, false, ap, length, refl, slice_index_or, sym, ◌∙◌}
use Rattle.catalogues.specs.Patterns.{taken}
use Rattle.catalogues.proofs.PatternLaws.{all_gone}
use Rattle.catalogues.proofs.patterns.takes.Goals as goal

pub returns : goal.returns
returns c =
    let so_far = c.loop-byte.invariant in
    let whole : c.args.name.now ≡ so_far.0 = all_gone c.args.name.now c.loop-byte.left.now so_far.0 so_far.1 c.in_default.ensures.cases in
    ap (λ (row : List Bool). slice_index_or row (length c.args.pattern.now) false) c.as_slice-answers.ensures.value ∙ so_far.3 [] c.args.pattern.now refl ∙ ap (λ (n : List ℕ). taken n c.args.pattern.now) (sym whole)
