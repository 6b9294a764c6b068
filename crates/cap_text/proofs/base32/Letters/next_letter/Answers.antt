use Rattle.std.proofs.Common.{◌≡◌, ℕ, ◌<◌, List, [], ◌∷◌, ◌++◌, length, map, refl, sym, ap, ◌∙◌, arith, append_assoc, length-append}
use Rattle.std.proofs.lemmas.List.{nil_from_length}
use Rattle.std.specs.List.{flat_map}
use Rattle.cap_text.specs.Base32.{bits, groups, letter}
use Rattle.cap_text.proofs.Bits.{length-bits}
use Rattle.cap_text.proofs.Groups.{groups-first}
use Rattle.cap_text.proofs.base32.Letters.next_letter.Goals as goal

-- without a bit and a byte there is no letter
none_left : (waiting bytes : List ℕ) → waiting ≡ [] → bytes ≡ [] → map letter (groups (waiting ++ flat_map (bits 8) bytes)) ≡ []
unfolding groups
none_left waiting bytes no_bits no_bytes = rw (no_bits, no_bytes) refl

-- the first letter, and the others
first_letter : (waiting rest bytes : List ℕ) (n c : ℕ) → waiting ≡ bits 5 n ++ rest → n < 32 → c ≡ letter n
    → map letter (groups (waiting ++ flat_map (bits 8) bytes)) ≡ c ∷ map letter (groups (rest ++ flat_map (bits 8) bytes))
first_letter waiting rest bytes n c front small first =
    rw (front, first, append_assoc) (ap (map letter) (groups-first n (rest ++ flat_map (bits 8) bytes) small))

pub returns-then-len-eq0-clause-end : goal.returns-then-len-eq0-clause-end
returns-then-len-eq0-clause-end c =
    let refilled = c.refill-self-inside.ensures in
    let none : length c.refill-self-inside.new.waiting ≡ 0 = omega (arith, c.len.ensures) in
    sym c.self.view_is ∙ ap (map letter) (sym refilled.same)
    ∙ none_left c.refill-self-inside.new.waiting c.refill-self-inside.result.now (nil_from_length _ none) (refilled.end none)

pub returns-clause-letter : goal.returns-clause-letter
returns-clause-letter c =
    let refilled = c.refill-self-inside.ensures in
    sym c.self.view_is ∙ ap (map letter) (sym refilled.same)
    ∙ first_letter c.refill-self-inside.new.waiting c.pop.new.self c.refill-self-inside.result.now c.pop.result c.letter_for.result
    c.pop.ensures.front c.pop.ensures.small c.letter_for.ensures.value

pub invariant_of-self-2 : goal.invariant_of-self-2
invariant_of-self-2 c =
    let parts = ap length c.pop.ensures.front ∙ length-append (bits 5 c.pop.result) c.pop.new.self in
    omega (arith, parts, length-bits 5 c.pop.result, c.refill-self-inside.ensures.room)
