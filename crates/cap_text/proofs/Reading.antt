-- Base32 read letter by letter.
use Rattle.std.proofs.Common.{◌≡◌, ℕ, zero, suc, ◌+◌, ◌*◌, ◌<◌, ◌≤◌, List, [], ◌∷◌, ◌++◌, length, get_or, take, drop, set, map, replicate, refl, sym, ap, ◌∙◌, inl, inr, ◌≢◌, arith, below_more, get_or-set_other, get_or-set_same, append_assoc, length-append}
use Rattle.std.proofs.lemmas.List.{take_at, drop_at, take_more, take_more_set, take_all, length-map, length-set, length-replicate, length-take-le, map_push, flat_map_more, get_or-map, get_or_past}
use Rattle.std.proofs.lemmas.Bool.{cases_lt}
use Rattle.std.specs.List.{flat_map}
use Rattle.cap_text.specs.Base32.{bits, groups, letter, base32, IsBytes}
use Rattle.cap_text.proofs.Bits.{AreBits-flat_map, bits-injective, length-bits, length-flat_map-bits}
use Rattle.cap_text.proofs.Groups.{AreGroups, AreGroups-groups, Fills, bits-groups, groups-bits, map-letter-injective}

-- two ways to cut one list at one position
pub parts_of_one : (a b x y : List ℕ) → length a ≡ length b → a ++ x ≡ b ++ y → (a ≡ b) × (x ≡ y)
parts_of_one a b x y size same = (
  sym (take_at a x (length a) refl) ∙ ap (take (length a)) same ∙ take_at b y (length a) (sym size),
  sym (drop_at a x (length a) refl) ∙ ap (drop (length a)) same ∙ drop_at b y (length a) (sym size),
)

-- bytes have bits of their own
pub byte_bits-injective : (xs ys : List ℕ) → ((i : ℕ) → get_or xs i 0 < 256) → ((i : ℕ) → get_or ys i 0 < 256)
    → flat_map (bits 8) xs ≡ flat_map (bits 8) ys → xs ≡ ys
byte_bits-injective [] [] p q same = refl
byte_bits-injective [] (y ∷ ys) p q same = absurd (omega (arith, ap length same, length-append (bits 8 y) (flat_map (bits 8) ys), length-bits 8 y))
byte_bits-injective (x ∷ xs) [] p q same = absurd (omega (arith, ap length same, length-append (bits 8 x) (flat_map (bits 8) xs), length-bits 8 x))
byte_bits-injective (x ∷ xs) (y ∷ ys) p q same =
    let parts = parts_of_one (bits 8 x) (bits 8 y) _ _ (length-bits 8 x ∙ sym (length-bits 8 y)) same in
    let first : x ≡ y = bits-injective 8 x y (p 0) (q 0) parts.0 in
    let rest : xs ≡ ys = byte_bits-injective xs ys (λ i. p (suc i)) (λ i. q (suc i)) parts.1 in
    cc

-- what the letters up to a position are, and what was made of them: bytes, and bits that wait
pub record ReadSoFar (text out : List ℕ) (position done : ℕ) (waiting : List ℕ) : Type 0 where
  pub numbers : List ℕ
  pub small : AreGroups numbers
  pub letters : take position text ≡ map letter numbers
  pub same : flat_map (bits 5) numbers ≡ flat_map (bits 8) (take done out) ++ waiting
  pub below : (i : ℕ) → i < done → get_or out i 0 < 256
  pub room : done ≤ length out
  pub short : length waiting ≤ 7

pub read_none : (text out : List ℕ) → ReadSoFar text out 0 0 []
read_none text out = record { numbers = []; small = tt; letters = refl; same = refl; below = λ i inside. absurd (omega arith); room = omega arith; short = omega arith }

AreGroups-push : (ns : List ℕ) (n : ℕ) → AreGroups ns → n < 32 → AreGroups (ns ++ n ∷ [])
AreGroups-push [] n p q = (q, tt)
AreGroups-push (m ∷ ns) n p q = (p.0, AreGroups-push ns n p.1 q)

-- one more letter
pub read_letter : (text out : List ℕ) (position done n c : ℕ) (waiting new : List ℕ) → ReadSoFar text out position done waiting → position < length text
    → n < 32 → letter n ≡ c → c ≡ get_or text position 0 → new ≡ waiting ++ bits 5 n → length new ≤ 7 → ReadSoFar text out (position + 1) done new
read_letter text out position done n c waiting new read inside small is_letter at new_is short = record {
  numbers = read.numbers ++ n ∷ [];
  small = AreGroups-push read.numbers n read.small small;
  letters = take_more text position 0 inside ∙ ap (λ (front : List ℕ). front ++ get_or text position 0 ∷ []) read.letters
      ∙ ap (λ (last : ℕ). map letter read.numbers ++ last ∷ []) (sym (is_letter ∙ at)) ∙ sym (map_push letter read.numbers n);
  same = sym (flat_map_more (bits 5) [] read.numbers n) ∙ ap (λ (front : List ℕ). front ++ bits 5 n) read.same
      ∙ append_assoc (flat_map (bits 8) (take done out)) waiting (bits 5 n) ∙ ap (λ (rest : List ℕ). flat_map (bits 8) (take done out) ++ rest) (sym new_is);
  below = read.below;
  room = read.room;
  short = short;
}

-- one more letter, and a byte
pub read_byte : (text out : List ℕ) (position done n c b : ℕ) (waiting new rest : List ℕ) → ReadSoFar text out position done waiting → position < length text
    → n < 32 → letter n ≡ c → c ≡ get_or text position 0 → new ≡ waiting ++ bits 5 n → new ≡ bits 8 b ++ rest → b < 256 → done < length out
    → ReadSoFar text (set out done b) (position + 1) (done + 1) rest
read_byte text out position done n c b waiting new rest read inside small is_letter at new_is byte whole room =
    let sizes = ap length (sym new_is ∙ byte) in
    record {
      numbers = read.numbers ++ n ∷ [];
      small = AreGroups-push read.numbers n read.small small;
      letters = take_more text position 0 inside ∙ ap (λ (front : List ℕ). front ++ get_or text position 0 ∷ []) read.letters
          ∙ ap (λ (last : ℕ). map letter read.numbers ++ last ∷ []) (sym (is_letter ∙ at)) ∙ sym (map_push letter read.numbers n);
      same = sym (flat_map_more (bits 5) [] read.numbers n) ∙ ap (λ (front : List ℕ). front ++ bits 5 n) read.same
          ∙ append_assoc (flat_map (bits 8) (take done out)) waiting (bits 5 n)
          ∙ ap (λ (more : List ℕ). flat_map (bits 8) (take done out) ++ more) (sym new_is ∙ byte)
          ∙ sym (append_assoc (flat_map (bits 8) (take done out)) (bits 8 b) rest)
          ∙ ap (λ (front : List ℕ). front ++ rest) (flat_map_more (bits 8) [] (take done out) b ∙ ap (flat_map (bits 8)) (sym (take_more_set out done b room)));
      below = below_more _ _ (λ i inside. let other : i ≢ done = omega arith in rw get_or-set_other (read.below i inside)) (rw get_or-set_same whole);
      room = simp length-set (omega arith);
      short = omega (arith, read.short, sizes, length-append waiting (bits 5 n), length-append (bits 8 b) rest, length-bits 5 n, length-bits 8 b);
    }

-- the numbers of the letters of some bytes, and the zeros that fill the last
pub record Spelled (text bytes : List ℕ) : Type 0 where
  pub numbers : List ℕ
  pub small : AreGroups numbers
  pub letters : text ≡ map letter numbers
  pub fills : Fills (flat_map (bits 8) bytes) (flat_map (bits 5) numbers)

pub spelled : (text bytes : List ℕ) → text ≡ base32 bytes → Spelled text bytes
unfolding base32
spelled text bytes same =
    let all = AreBits-flat_map 8 bytes in record {
      numbers = groups (flat_map (bits 8) bytes);
      small = AreGroups-groups _ all;
      letters = same;
      fills = bits-groups _ all;
    }

-- how many letters there are
pub record Sizes (text bytes : List ℕ) (fill : ℕ) : Type 0 where
  pub few : fill < 5
  pub total : 5 * length text ≡ 8 * length bytes + fill

pub sizes : (text bytes : List ℕ) (s : Spelled text bytes) → Sizes text bytes s.fills.fill
sizes text bytes s = record {
  few = s.fills.few;
  total = omega (
    arith,
    ap length s.letters ∙ length-map s.numbers letter,
    sym (length-flat_map-bits 5 s.numbers) ∙ ap length s.fills.same,
    length-append (flat_map (bits 8) bytes) (replicate s.fills.fill 0),
    length-flat_map-bits 8 bytes,
    length-replicate {A = ℕ} s.fills.fill 0,
  );
}

-- what was read has the bits of all its letters
read_sizes : (text out : List ℕ) (position done : ℕ) (waiting : List ℕ) → ReadSoFar text out position done waiting → position ≤ length text
    → 5 * position ≡ 8 * done + length waiting
read_sizes text out position done waiting read inside =
    omega (
      arith,
      sym (length-take-le position text inside) ∙ ap length read.letters ∙ length-map read.numbers letter,
      sym (length-flat_map-bits 5 read.numbers) ∙ ap length read.same,
      length-append (flat_map (bits 8) (take done out)) waiting,
      length-flat_map-bits 8 (take done out),
      length-take-le done out read.room,
    )

pub small_at : (ns : List ℕ) (i : ℕ) → AreGroups ns → i < length ns → get_or ns i 0 < 32
small_at [] i small inside = absurd (omega arith)
small_at (n ∷ ns) zero small inside = small.0
small_at (n ∷ ns) (suc i) small inside = small_at ns i small.1 (omega arith)

-- each character is a letter
pub no_other_letter : (text bytes : List ℕ) (position : ℕ) → position < length text → text ≡ base32 bytes
    → ((n : ℕ) → n < 32 → letter n ≡ get_or text position 0 → ⊥) → ⊥
no_other_letter text bytes position inside same none =
    let s = spelled text bytes same in
    let size : length text ≡ length s.numbers = ap length s.letters ∙ length-map s.numbers letter in
    let inside' : position < length s.numbers = omega arith in
    none (get_or s.numbers position 0) (small_at s.numbers position s.small inside')
    (sym (get_or-map letter s.numbers position 0 0 inside') ∙ sym (ap (λ (all : List ℕ). get_or all position 0) s.letters))

-- there are no more letters than the bytes need
pub no_more_letters : (text out bytes : List ℕ) (position : ℕ) (waiting : List ℕ) → ReadSoFar text out position (length out) waiting → position < length text
    → 3 ≤ length waiting → text ≡ base32 bytes → length bytes ≡ length out → ⊥
no_more_letters text out bytes position waiting read inside full same size =
    let s = spelled text bytes same in
    let total = sizes text bytes s in
    omega (arith, total.few, total.total, read_sizes text out position (length out) waiting read (omega arith))

-- all letters were read: they spell what they gave
pub spells_out : (text out waiting : List ℕ) → ReadSoFar text out (length text) (length out) waiting → length waiting < 5
    → waiting ≡ replicate (length waiting) 0 → text ≡ base32 out
unfolding base32
spells_out text out waiting read few zeros =
    let s = spelled (base32 out) out refl in
    let total = sizes (base32 out) out s in
    let all = flat_map (bits 8) out in
    let given : flat_map (bits 5) read.numbers ≡ all ++ waiting =
    read.same ∙ ap (λ (front : List ℕ). flat_map (bits 8) front ++ waiting) (take_all (length out) out (omega arith)) in
    let part = read_sizes text out (length text) (length out) waiting read (omega arith) in
    let same_fill : length waiting ≡ s.fills.fill = omega (arith, part, total.few, total.total) in
    let same_zeros : waiting ≡ replicate s.fills.fill 0 = zeros ∙ ap (λ (k : ℕ). replicate k 0) same_fill in
    let same_bits : flat_map (bits 5) read.numbers ≡ flat_map (bits 5) s.numbers =
    given ∙ ap (λ (rest : List ℕ). all ++ rest) same_zeros ∙ sym s.fills.same in
    sym (take_all (length text) text (omega arith)) ∙ read.letters
    ∙ ap (map letter) (sym (groups-bits read.numbers read.small) ∙ ap groups same_bits ∙ groups-bits s.numbers s.small) ∙ sym s.letters

-- what was read are bytes
pub all_below : (text out : List ℕ) (position done : ℕ) (waiting : List ℕ) → ReadSoFar text out position done waiting → done ≡ length out
    → (i : ℕ) → get_or out i 0 < 256
all_below text out position done waiting read all i = elim (cases_lt i done) [
  | inl inside ↦ read.below i inside
  | inr past ↦ rw (get_or_past out i 0 (omega arith)) (omega arith)
]

-- what a text that spells bytes gives
pub record Gives (out bytes waiting : List ℕ) (done : ℕ) : Type 0 where
  pub all : done ≡ length out
  pub few : length waiting < 5
  pub zeros : waiting ≡ replicate (length waiting) 0
  pub same : out ≡ bytes

pub gives_bytes : (text out bytes waiting : List ℕ) (done : ℕ) → ReadSoFar text out (length text) done waiting → text ≡ base32 bytes
    → IsBytes (length out) bytes → Gives out bytes waiting done
gives_bytes text out bytes waiting done read same whole =
    let s = spelled text bytes same in
    let total = sizes text bytes s in
    let part = read_sizes text out (length text) done waiting read (omega arith) in
    let all : done ≡ length out = omega (arith, total.few, total.total, whole.len, read.short, read.room) in
    let fill : length waiting ≡ s.fills.fill = omega (arith, total.few, total.total, whole.len, read.short, read.room) in
    let numbers : read.numbers ≡ s.numbers =
    map-letter-injective read.numbers s.numbers read.small s.small (sym read.letters ∙ take_all (length text) text (omega arith) ∙ s.letters) in
    let taken : take done out ≡ out = take_all done out (omega arith) in
    let both : flat_map (bits 8) out ++ waiting ≡ flat_map (bits 8) bytes ++ replicate s.fills.fill 0 =
    ap (λ (front : List ℕ). flat_map (bits 8) front ++ waiting) (sym taken) ∙ sym read.same ∙ ap (flat_map (bits 5)) numbers ∙ s.fills.same in
    let parts = parts_of_one (flat_map (bits 8) out) (flat_map (bits 8) bytes) waiting (replicate s.fills.fill 0)
    (length-flat_map-bits 8 out ∙ ap (λ (k : ℕ). 8 * k) (sym whole.len) ∙ sym (length-flat_map-bits 8 bytes)) both in
    let below = all_below text out (length text) done waiting read all in
    record {
      all = all;
      few = omega (arith, total.few);
      zeros = parts.1 ∙ ap (λ (k : ℕ). replicate k 0) (sym fill);
      same = byte_bits-injective out bytes below whole.below parts.0;
    }
