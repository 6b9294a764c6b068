use Rattle.std.proofs.Common.{◌≡◌, ℕ, List, ◌++◌, sym, ◌∙◌, ap, arith, length}
use Rattle.std.specs.Prelude.{codes}
use Rattle.std.proofs.lemmas.List.{length-append}
use Rattle.user_files.proofs.publishing.own_name.Goals as goal

-- a text with more behind it is another one
longer : (xs ys : List ℕ) → xs ++ (codes "." ++ ys) ≡ xs → ⊥
longer xs ys same = omega (arith, ap length same, length-append xs (codes "." ++ ys), length-append (codes ".") ys)

pub returns : goal.returns
returns g c = λ same. longer _ _ (sym c.in_ok-format.ensures.ok ∙ same)
