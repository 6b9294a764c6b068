use Rattle.std.proofs.Common.{ℕ, List, [], ◌∷◌, ◌++◌, decimal, sym, ap, ◌∙◌}
use Rattle.std.specs.Fmt.{digits}
use Rattle.merkle.proofs.rows.hash_text.Goals as goal

pub returns : goal.returns
unfolding digits
returns c =
    ap (λ (t : List ℕ). 51 ∷ 50 ∷ 58 ∷ (t ++ 44 ∷ [])) c.copy_from_slice.ensures.after
    ∙ sym (ap (λ (n : ℕ). decimal n ++ (58 ∷ (c.args.hash.now ++ 44 ∷ []))) c.told-hash)
