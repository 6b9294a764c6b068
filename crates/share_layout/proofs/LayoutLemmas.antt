-- The two layouts: numbers in four bytes or eight, the header, and which layout a geometry has.
use Rattle.std.proofs.Common.{◌≡◌, ◌↔◌, ℕ, zero, suc, ◌+◌, ◌-◌, ◌*◌, ◌^◌, ◌<◌, ◌≤◌, Bool, true, false, List, [], ◌∷◌, ◌++◌, length, take, drop, get_or, inl, inr, ap, sym, refl, ◌∙◌, ◌&&◌, length-append, length-drop, arith}
use Rattle.std.specs.Prelude.{nat_lt, nat_eq, IsTrue}
use Rattle.std.specs.Int.{w32, to_be_bytes}
use Rattle.std.specs.List.{flat_map, list_all, starts_with}
use Rattle.std.proofs.lemmas.Bool.{cases_lt}
use Rattle.std.proofs.Math.Nat.{mul-add}
use Rattle.std.proofs.lemmas.List.{take_at, drop_at, drop-drop, flat_map_more, length-take-le, take-append-drop, take_more}
use Rattle.std.proofs.lemmas.Slice.{drop-put_mid, take-put_mid}
use borrow.Rule.Slice.PartMut.{put_mid}
use Rattle.std.proofs.lemmas.Nat.{be_bytes_4, be_bytes_8, from_be_bytes-to_be_bytes_4, from_be_bytes-to_be_bytes_8}
use Rattle.std.proofs.lemmas.Slice.Eq.{bytes_eq-Decides}
use Rattle.lemmas.proofs.Numbers.{lt_false}
use Rattle.lemmas.proofs.Bools.{bool_cases}
use Rattle.share_layout.specs.declared.layout.Layout.{Layout}
use Rattle.share_layout.specs.declared.layout.Layout.TheVariants.{One, Two}
use Rattle.share_layout.specs.Geometry.{Geometry, block_size, share_data_size}
use Rattle.share_layout.specs.Layout.{header_by, header_size, layout_of, number_in, offsets_by, spelled, version, width}
use Rattle.share_layout.specs.Offsets.{layout_in}

-- the widths
pub width_4 : (l : Layout) → 4 ≤ width l
width_4 One = omega arith
width_4 Two = omega arith

pub width_8 : (l : Layout) → width l ≤ 8
width_8 One = omega arith
width_8 Two = omega arith

-- a number fits
abbrev pub limit : Layout → ℕ
limit One = 2 ^ 32
limit Two = 2 ^ 64

pub small_fits : (l : Layout) (n : ℕ) → n < 2 ^ 32 → n < limit l
small_fits One n small = small
small_fits Two n small = omega arith

pub length-spelled : (l : Layout) (n : ℕ) → length (spelled l n) ≡ width l
length-spelled One n = refl
length-spelled Two n = refl

pub read_back : (l : Layout) (n : ℕ) → n < limit l → number_in l (spelled l n) ≡ n
read_back One n fits = from_be_bytes-to_be_bytes_4 n fits
read_back Two n fits = from_be_bytes-to_be_bytes_8 n fits

pub spelled_again : (l : Layout) (bytes : List ℕ) (n : ℕ) → length bytes ≡ width l → ((i : ℕ) → get_or bytes i 0 < 256) → n ≡ number_in l bytes
    → spelled l n ≡ bytes
spelled_again One bytes n long small is = be_bytes_4 bytes n long small is
spelled_again Two bytes n long small is = be_bytes_8 bytes n long small is

-- the header
pub length-header : (l : Layout) (g : Geometry) → length (header_by l g) ≡ header_size l
length-header One g = refl
length-header Two g = refl

pub header_version : (l : Layout) (g : Geometry) → take 4 (header_by l g) ≡ to_be_bytes w32 (version l)
header_version One g = refl
header_version Two g = refl

-- one of some numbers, among their bytes
pub spelled_at : (l : Layout) (numbers : List ℕ) (i : ℕ) → i < length numbers
    → take (width l) (drop (width l * i) (flat_map (spelled l) numbers)) ≡ spelled l (get_or numbers i 0)
spelled_at l [] i inside = absurd (omega arith)
spelled_at l (n ∷ ns) zero inside =
    let none : width l * 0 ≡ 0 = omega arith in
    rw none (take_at (spelled l n) (flat_map (spelled l) ns) (width l) (length-spelled l n))
spelled_at l (n ∷ ns) (suc i) inside =
    let more : width l * suc i ≡ width l + width l * i = omega arith in
    ap (take (width l)) (ap (λ k. drop k (spelled l n ++ flat_map (spelled l) ns)) more
    ∙ sym (drop-drop (width l * i) (width l) (spelled l n ++ flat_map (spelled l) ns))
    ∙ ap (drop (width l * i)) (drop_at (spelled l n) (flat_map (spelled l) ns) (width l) (length-spelled l n)))
    ∙ spelled_at l ns i (omega arith)

one_not_two : to_be_bytes w32 1 ≡ to_be_bytes w32 2 → ⊥
one_not_two e = absurd (cc (ap (λ (l : List ℕ). get_or l 3 0) e))

-- the layout in which bytes begin is that of their version
pub layout_is : (l : Layout) (bytes : List ℕ) → take 4 bytes ≡ to_be_bytes w32 (version l) → layout_in bytes ≡ l
layout_is Two bytes is = rw ((bytes_eq-Decides (to_be_bytes w32 2) (take 4 bytes)).1 (sym is)) refl
layout_is One bytes is =
    elim (bool_cases (starts_with nat_eq bytes (to_be_bytes w32 2))) [
      | inl two ↦ absurd (one_not_two (sym is ∙ sym ((bytes_eq-Decides (to_be_bytes w32 2) (take 4 bytes)).0 two)))
      | inr other ↦ rw other refl
    ]

and_false : (b : Bool) → (b && false) ≡ false
and_false true = refl
and_false false = refl

all_but_last : (p : ℕ → Bool) (xs : List ℕ) (x : ℕ) → p x ≡ false → list_all p (xs ++ x ∷ []) ≡ false
all_but_last p [] x fails = rw fails refl
all_but_last p (y ∷ ys) x fails = rw (all_but_last p ys x fails) (and_false (p y))

-- the layout of a geometry, where the last number of the header is too great
pub layout_two : (g : Geometry) → 2 ^ 32 ≤ (offsets_by One g).extension_block → layout_of g ≡ Two
layout_two g large =
    let p = offsets_by One g in
    rw (all_but_last (λ n. nat_lt n (2 ^ 32))
    (block_size g ∷ share_data_size g ∷ header_size One ∷ p.unused ∷ p.ciphertext_tree ∷ p.block_tree ∷ p.share_hashes ∷ [])
    p.extension_block (lt_false p.extension_block (2 ^ 32) large)) refl

one_is_not_two : One ≡ Two → ⊥
one_is_not_two e = absurd (cc e)

-- all numbers of a header fit their bytes
pub fits_layout : (g : Geometry) (l : Layout) → (offsets_by Two g).extension_block < 2 ^ 41 → layout_of g ≡ l → (offsets_by l g).extension_block < limit l
fits_layout g Two small is = omega (arith, small)
fits_layout g One small is =
    elim (cases_lt (offsets_by One g).extension_block (2 ^ 32)) [
      | inl low ↦ low
      | inr large ↦ absurd (one_is_not_two (sym is ∙ layout_two g large))
    ]

-- bytes that begin with others
pub begins : (bytes needle front : List ℕ) (r : Bool) (n : ℕ) → r ≡ starts_with nat_eq bytes needle → needle ≡ front → length front ≡ n
    → IsTrue r ↔ (take n bytes ≡ front)
begins bytes needle front r n is same long =
    let d = bytes_eq-Decides needle (take (length needle) bytes) in
    let size : length needle ≡ n = ap length same ∙ long in (
      λ yes. ap (λ k. take k bytes) (sym size) ∙ sym (d.0 (sym is ∙ yes)) ∙ same,
      λ e. is ∙ d.1 (same ∙ sym e ∙ ap (λ k. take k bytes) (sym size)),
    )

-- a header's end is behind each of its numbers
pub inside_header : (l : Layout) (i : ℕ) → i < 8 → 4 + width l * i + width l ≤ header_size l
inside_header One i inside = omega (arith, inside)
inside_header Two i inside = omega (arith, inside)

-- one number more of a header is written
pub spelled_more : (l : Layout) (front numbers out old ys : List ℕ) (i w : ℕ) → w ≡ width l → i < 8 → length out ≡ 68 → length numbers ≡ 8
    → take (4 + width l * i) out ≡ front ++ flat_map (spelled l) (take i numbers)
    → drop (4 + width l * i) out ≡ drop (4 + width l * i) old
    → ys ≡ spelled l (get_or numbers i 0)
    → let after = put_mid (4 + w * i) (4 + w * i + w - (4 + w * i)) out ys in
    (length after ≡ 68) × (length numbers ≡ 8)
    × (take (4 + width l * (i + 1)) after ≡ front ++ flat_map (spelled l) (take (i + 1) numbers))
    × (drop (4 + width l * (i + 1)) after ≡ drop (4 + width l * (i + 1)) old)
spelled_more l front numbers out old ys i w same inside long eight written rest is =
    let a : ℕ = 4 + w * i in
    let n : ℕ = 4 + width l * (i + 1) in
    let k : ℕ = a + w - a in
    let after = put_mid a k out ys in
    let offset : 4 + width l * i ≡ a = ap (λ m. 4 + m * i) (sym same) in
    let next : n ≡ a + w = omega (arith, mul-add (width l) i 1, offset, same) in
    let room = inside_header l i inside in
    let most : header_size l ≤ 68 = omega (arith, width_8 l) in
    let wide : length ys ≡ w = ap length is ∙ length-spelled l (get_or numbers i 0) ∙ sym same in
    let low : a ≤ length out = omega (arith, room, most, offset, long) in
    let begun : take n after ≡ take a out ++ ys = take-put_mid a k out ys n (omega (arith, next, wide)) low in
    let left : drop n after ≡ drop n out = drop-put_mid a k out ys n (omega (arith, next)) low (omega (arith, wide)) in
    let size : length after ≡ 68 =
    ap length (sym (take-append-drop n after)) ∙ length-append (take n after) (drop n after)
    ∙ omega (arith, ap length begun, length-append (take a out) ys, length-take-le a out low, wide, ap length left, length-drop n out, next, room, most, offset, same, long) in (
      size,
      eight,
      begun ∙ (λ j. take (sym offset j) out ++ is j) ∙ ap (λ (f : List ℕ). f ++ spelled l (get_or numbers i 0)) written
          ∙ flat_map_more (spelled l) front (take i numbers) (get_or numbers i 0)
          ∙ ap (λ (ns : List ℕ). front ++ flat_map (spelled l) ns) (sym (take_more numbers i 0 (omega (arith, inside, eight)))),
      left ∙ ap (λ m. drop m out) (next ∙ omega (arith, offset, same)) ∙ sym (drop-drop (width l) (4 + width l * i) out)
          ∙ ap (drop (width l)) rest ∙ drop-drop (width l) (4 + width l * i) old ∙ ap (λ m. drop m old) (sym (next ∙ omega (arith, offset, same))),
    )
