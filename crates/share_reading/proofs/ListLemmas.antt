-- Bytes that are written one after another, and with which others begin.
use Rattle.std.proofs.Common.{◌≡◌, ◌↔◌, ◌≤◌, ℕ, Bool, IsTrue, List, length, take, nat_eq, ap, refl, sym, ◌∙◌, subst, arith}
use Rattle.std.specs.List.{starts_with}
use Rattle.std.proofs.lemmas.List.{take-take}
use Rattle.share_layout.specs.declared.layout.Layout.{Layout}
use Rattle.share_layout.specs.declared.layout.Layout.TheVariants.{One, Two}
use Rattle.share_layout.specs.Layout.{header_size}
use Rattle.share_layout.proofs.LayoutLemmas.{begins}

-- a header has 36 bytes at least
pub header_long : (l : Layout) → 36 ≤ header_size l
header_long One = omega arith
header_long Two = omega arith

-- a header begins with these bytes
pub begins_with : (out h bytes : List ℕ) (n : ℕ) (r : Bool) → take n out ≡ h → 36 ≤ n → r ≡ starts_with nat_eq out bytes → length bytes ≡ 36
    → IsTrue r ↔ (take 36 h ≡ bytes)
begins_with out h bytes n r front low is long =
    subst (λ (t : List ℕ). IsTrue r ↔ (t ≡ bytes)) (sym (take-take 36 n out low) ∙ ap (take 36) front)
    (begins out bytes bytes r 36 is refl long)
