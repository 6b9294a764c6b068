-- The name of a new file beside another.
use Rattle.std.proofs.Common.{◌≡◌, ◌<◌, ◌≤◌, ◌∙◌, ℕ, List, ◌++◌, Bool, true, false, length, nat_le, nat_lt, refl, sym, ap, arith, lit<}
use Rattle.std.specs.Prelude.{codes, decimal, if◌then◌else◌}
use Rattle.std.proofs.lemmas.Fmt.{length-decimal-le}
use Rattle.std.proofs.lemmas.Bool.{leb-false}
use Rattle.std.proofs.lemmas.List.{length-append}
use Rattle.grid_gets.specs.Target.{most_own, part_name}

-- it has another length than that name, by whether that has room for more, and whether it is the first
other_length : (fits first : Bool) (name : List ℕ) (turn : ℕ) → nat_le (length name) most_own ≡ fits → turn < 256
    → (if first then (if fits then name else codes "grid-get") ++ codes ".part" else (if fits then name else codes "grid-get") ++ codes ".part." ++ decimal turn) ≡ name → ⊥
other_length true true name turn is low same = omega (arith, length-append name (codes ".part"), ap length same)
other_length true false name turn is low same =
    let long : length (name ++ codes ".part." ++ decimal turn) ≡ length name = ap length same in
    omega (arith, length-append (name ++ codes ".part.") (decimal turn), length-append name (codes ".part."), long)
other_length false true name turn is low same = omega (arith, leb-false (length name) most_own is, ap length same)
other_length false false name turn is low same =
    let few : length (decimal turn) ≤ 3 = length-decimal-le 3 turn (lit< tt) (omega (arith, low)) (omega (arith, low)) in
    omega (arith, leb-false (length name) most_own is, few, length-append (codes "grid-get" ++ codes ".part.") (decimal turn), ap length same)

pub apart : (name own : List ℕ) (turn : ℕ) → turn < 256 → own ≡ part_name name turn → own ≡ name → ⊥
apart name own turn low is same = other_length (nat_le (length name) most_own) (nat_lt turn 2) name turn refl low (sym is ∙ same)
