-- Bits in groups of five, and the letters of the groups.
use Rattle.std.proofs.Common.{◌≡◌, ℕ, ◌+◌, ◌*◌, ◌/◌, ◌%◌, ◌<◌, ◌≤◌, List, [], ◌∷◌, ◌++◌, length, map, replicate, refl, ap, ◌∙◌, inl, inr, arith, append-nil}
use Rattle.std.proofs.lemmas.Bool.{cases_lt}
use Rattle.std.specs.List.{AllByRecursion, flat_map}
use Rattle.cap_text.specs.Base32.{bits, groups, letter}
use Rattle.cap_text.proofs.Bits.{AreBits}

-- each has at most five bits
abbrev pub AreGroups : List ℕ → Type 0
AreGroups ns = AllByRecursion (λ n. n < 32) ns

-- the first group of a string of bits
pub groups-first : (n : ℕ) (rest : List ℕ) → n < 32 → groups (bits 5 n ++ rest) ≡ n ∷ groups rest
unfolding bits groups
groups-first n rest fits =
    let whole : 16 * (n / 2 / 2 / 2 / 2 % 2) + 8 * (n / 2 / 2 / 2 % 2) + 4 * (n / 2 / 2 % 2) + 2 * (n / 2 % 2) + n % 2 ≡ n = omega arith in
    ap (λ (k : ℕ). k ∷ groups rest) whole

-- the groups of the bits of some groups are these
pub groups-bits : (ns : List ℕ) → AreGroups ns → groups (flat_map (bits 5) ns) ≡ ns
unfolding groups
groups-bits [] small = refl
groups-bits (n ∷ ns) small = groups-first n (flat_map (bits 5) ns) small.0 ∙ ap (λ (rest : List ℕ). n ∷ rest) (groups-bits ns small.1)

five_bits : (a b c d e : ℕ) → a < 2 → b < 2 → c < 2 → d < 2 → e < 2 → bits 5 (16 * a + 8 * b + 4 * c + 2 * d + e) ≡ a ∷ b ∷ c ∷ d ∷ e ∷ []
unfolding bits
five_bits a b c d e pa pb pc pd pe =
    let n : ℕ = 16 * a + 8 * b + 4 * c + 2 * d + e in
    let ea : n / 2 / 2 / 2 / 2 % 2 ≡ a = omega arith in
    let eb : n / 2 / 2 / 2 % 2 ≡ b = omega arith in
    let ec : n / 2 / 2 % 2 ≡ c = omega arith in
    let ed : n / 2 % 2 ≡ d = omega arith in
    let ee : n % 2 ≡ e = omega arith in
    cc

-- each group is below 32
pub AreGroups-groups : (bs : List ℕ) → AreBits bs → AreGroups (groups bs)
unfolding groups
AreGroups-groups [] p = tt
AreGroups-groups (a ∷ []) p = (omega arith, tt)
AreGroups-groups (a ∷ b ∷ []) p = (omega arith, tt)
AreGroups-groups (a ∷ b ∷ c ∷ []) p = (omega arith, tt)
AreGroups-groups (a ∷ b ∷ c ∷ d ∷ []) p = (omega arith, tt)
AreGroups-groups (a ∷ b ∷ c ∷ d ∷ e ∷ rest) p = (omega arith, AreGroups-groups rest p.1.1.1.1.1)

-- the bits of the groups are the bits, and the zeros that fill the last group
pub record Fills (bs filled : List ℕ) : Type 0 where
  pub fill : ℕ
  pub few : fill < 5
  pub same : filled ≡ bs ++ replicate fill 0

pub bits-groups : (bs : List ℕ) → AreBits bs → Fills bs (flat_map (bits 5) (groups bs))
unfolding groups
bits-groups [] p = record { fill = 0; few = omega arith; same = refl }
bits-groups (a ∷ []) p =
    let n : 16 * a ≡ 16 * a + 8 * 0 + 4 * 0 + 2 * 0 + 0 = omega arith in
    record { fill = 4; few = omega arith; same = append-nil _ ∙ ap (bits 5) n ∙ five_bits a 0 0 0 0 p.0 (omega arith) (omega arith) (omega arith) (omega arith) }
bits-groups (a ∷ b ∷ []) p =
    let n : 16 * a + 8 * b ≡ 16 * a + 8 * b + 4 * 0 + 2 * 0 + 0 = omega arith in
    record { fill = 3; few = omega arith; same = append-nil _ ∙ ap (bits 5) n ∙ five_bits a b 0 0 0 p.0 p.1.0 (omega arith) (omega arith) (omega arith) }
bits-groups (a ∷ b ∷ c ∷ []) p =
    let n : 16 * a + 8 * b + 4 * c ≡ 16 * a + 8 * b + 4 * c + 2 * 0 + 0 = omega arith in
    record { fill = 2; few = omega arith; same = append-nil _ ∙ ap (bits 5) n ∙ five_bits a b c 0 0 p.0 p.1.0 p.1.1.0 (omega arith) (omega arith) }
bits-groups (a ∷ b ∷ c ∷ d ∷ []) p =
    let n : 16 * a + 8 * b + 4 * c + 2 * d ≡ 16 * a + 8 * b + 4 * c + 2 * d + 0 = omega arith in
    record { fill = 1; few = omega arith; same = append-nil _ ∙ ap (bits 5) n ∙ five_bits a b c d 0 p.0 p.1.0 p.1.1.0 p.1.1.1.0 (omega arith) }
bits-groups (a ∷ b ∷ c ∷ d ∷ e ∷ rest) p =
    let more = bits-groups rest p.1.1.1.1.1 in
    record {
      fill = more.fill;
      few = more.few;
      same = ap (λ (front : List ℕ). front ++ flat_map (bits 5) (groups rest)) (five_bits a b c d e p.0 p.1.0 p.1.1.0 p.1.1.1.0 p.1.1.1.1.0)
          ∙ ap (λ (more : List ℕ). a ∷ b ∷ c ∷ d ∷ e ∷ more) more.same;
    }

-- the last group, filled with zeros
pub groups-filled : (bs : List ℕ) (fill : ℕ) → 0 < length bs → 0 < fill → length bs + fill ≡ 5 → groups (bs ++ bits fill 0) ≡ groups bs
unfolding bits groups
groups-filled [] fill some more few = absurd (omega arith)
groups-filled (a ∷ []) fill some more few = let e : fill ≡ 4 = omega arith in rw e (ap (λ (n : ℕ). n ∷ []) (let same : 16 * a + 8 * 0 + 4 * 0 + 2 * 0 + 0 ≡ 16 * a = omega arith in same))
groups-filled (a ∷ b ∷ []) fill some more few = let e : fill ≡ 3 = omega arith in rw e (ap (λ (n : ℕ). n ∷ []) (let same : 16 * a + 8 * b + 4 * 0 + 2 * 0 + 0 ≡ 16 * a + 8 * b = omega arith in same))
groups-filled (a ∷ b ∷ c ∷ []) fill some more few = let e : fill ≡ 2 = omega arith in rw e (ap (λ (n : ℕ). n ∷ []) (let same : 16 * a + 8 * b + 4 * c + 2 * 0 + 0 ≡ 16 * a + 8 * b + 4 * c = omega arith in same))
groups-filled (a ∷ b ∷ c ∷ d ∷ []) fill some more few = let e : fill ≡ 1 = omega arith in rw e (ap (λ (n : ℕ). n ∷ []) (let same : 16 * a + 8 * b + 4 * c + 2 * d + 0 ≡ 16 * a + 8 * b + 4 * c + 2 * d = omega arith in same))
groups-filled (a ∷ b ∷ c ∷ d ∷ e ∷ rest) fill some more few = absurd (omega arith)

-- a letter has one number
pub letter-small : (n : ℕ) → n < 26 → letter n ≡ 97 + n
unfolding letter
letter-small n small = grind arith

pub letter-large : (n : ℕ) → 26 ≤ n → letter n ≡ 24 + n
unfolding letter
letter-large n large = grind arith

pub letter-injective : (m n : ℕ) → m < 32 → n < 32 → letter m ≡ letter n → m ≡ n
letter-injective m n pm pn same = elim (cases_lt m 26) [
  | inl low ↦ elim (cases_lt n 26) [
    | inl low' ↦ omega (arith, letter-small m low, letter-small n low', same)
    | inr high' ↦ absurd (omega (arith, letter-small m low, letter-large n high', same))
  ]
  | inr high ↦ elim (cases_lt n 26) [
    | inl low' ↦ absurd (omega (arith, letter-large m high, letter-small n low', same))
    | inr high' ↦ omega (arith, letter-large m high, letter-large n high', same)
  ]
]

pub map-letter-injective : (ms ns : List ℕ) → AreGroups ms → AreGroups ns → map letter ms ≡ map letter ns → ms ≡ ns
map-letter-injective [] [] p q same = refl
map-letter-injective [] (n ∷ ns) p q same = cc
map-letter-injective (m ∷ ms) [] p q same = cc
map-letter-injective (m ∷ ms) (n ∷ ns) p q same =
    let heads : letter m ≡ letter n = cc in
    let tails : map letter ms ≡ map letter ns = cc in
    let first = letter-injective m n p.0 q.0 heads in
    let rest = map-letter-injective ms ns p.1 q.1 tails in
    cc
