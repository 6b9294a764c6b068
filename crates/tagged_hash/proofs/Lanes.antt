-- What stands in a lane of several hashers.
use Rattle.std.proofs.Common.{◌≡◌, ◌≢◌, ◌<◌, ℕ, zero, suc, List, length, get_or, Some, sym, ap, subst, ◌∙◌, arith}
use Rattle.std.specs.Prelude.{slice_set}
use Rattle.std.proofs.lemmas.Option.{same_Some, slice_get-get_or, slice_get_within}
use Rattle.lemmas.proofs.Positions.{get_of, get_other, get_set}
use Rattle.tagged_hash.specs.TaggedHasher.{Holds, HoldsIn}
use Rattle.tagged_hash.specs.declared.tag.Tag.{Tag}
use Rattle.tagged_hash.specs.declared.hasher.TaggedHasher.{TaggedHasher}

-- what stands at another position stays there
pub stays : (hashers : List TaggedHasher) (i j : ℕ) (x : TaggedHasher) (tag : Tag) (given : List ℕ) → j ≢ i → HoldsIn hashers j tag given
    → HoldsIn (slice_set hashers i x) j tag given
stays hashers i j x tag given apart held = record { hasher = held.hasher; there = get_other hashers i j x apart ∙ held.there; holds = held.holds }

-- what is put at a position stands there
pub placed : (hashers : List TaggedHasher) (i : ℕ) (x : TaggedHasher) (tag : Tag) (given : List ℕ) → i < length hashers → Holds x tag given
    → HoldsIn (slice_set hashers i x) i tag given
placed hashers i x tag given low held = let y = get_of hashers i low in record { hasher = x; there = get_set hashers i x y.0 y.1; holds = held }

-- what stands at a position holds it
pub taken : (hashers : List TaggedHasher) (i : ℕ) (x d : TaggedHasher) (tag : Tag) (given : List ℕ) → x ≡ get_or hashers i d → HoldsIn hashers i tag given → Holds x tag given
taken hashers i x d tag given is held =
    let low : i < length hashers = slice_get_within hashers i held.hasher held.there in
    let same : held.hasher ≡ x = same_Some held.hasher x (sym held.there ∙ slice_get-get_or hashers i d low ∙ ap Some (sym is)) in
    subst (λ (h : TaggedHasher). Holds h tag given) same held.holds

-- what holds of three numbers holds of all below three
pub by_three : (P : ℕ → Type 0) → P 0 → P 1 → P 2 → (k : ℕ) → k < 3 → P k
by_three P a b c zero below = a
by_three P a b c (suc zero) below = b
by_three P a b c (suc (suc zero)) below = c
by_three P a b c (suc (suc (suc k))) below = absurd (omega (arith, below))
