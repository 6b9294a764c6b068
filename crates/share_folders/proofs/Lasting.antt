-- Which names of shares last.
use Rattle.std.proofs.Common.{◌≡◌, ℕ, ◌+◌, ◌-◌, ◌<◌, ◌≤◌, true, false, not, inl, inr, List, ◌∷◌, ◌++◌, length, take, drop, get_or, refl, sym, ap, ◌∙◌, arith}
use Rattle.std.specs.Prelude.{nat_eq, decimal, codes, Option, None, Some, Result, Ok, Err, IfOk}
use Rattle.std.specs.Cmp.Lexicographic.{pointwise, bytes_decides}
use Rattle.std.proofs.lemmas.Bool.{cases_lt}
use Rattle.std.proofs.lemmas.List.{take-append-drop, drop_at, append_assoc, length-append, length-drop, get_or_at, get_or-append_right, get_or-drop, get_or-map, length-map}
use Rattle.cap_text.specs.Base32.{base32, letter}
use Rattle.cap_text.proofs.Groups.{letter-small, letter-large}
use Rattle.cap_text.proofs.Reading.{spelled, small_at}
use Rattle.disks.specs.Names.{lasts}
use Rattle.share_store.specs.Shelf.{ShareKey}
use Rattle.share_folders.specs.Names.{closed_name, open_name, named_by}
use Rattle.share_folders.proofs.NameLaws.{letters_32}

-- what ends in `.open` passes
ends_open : (stem : List ℕ) → lasts (stem ++ codes ".open") ≡ false
unfolding lasts
ends_open stem =
    let long : length (stem ++ codes ".open") ≡ length stem + 5 = length-append stem (codes ".open") in
    let end : drop (length (stem ++ codes ".open") - 5) (stem ++ codes ".open") ≡ codes ".open" = drop_at stem (codes ".open") _ (omega (arith, long)) in
    ap not ((bytes_decides (codes ".open") (drop (length (stem ++ codes ".open") - 5) (stem ++ codes ".open"))).1 (sym end))

pub open_passes : (key : ShareKey) (own : Option (List ℕ)) → lasts (open_name key own) ≡ false
open_passes key None = ap lasts (append_assoc (base32 key.0 ++ codes "." ++ decimal key.1) (codes ".") (codes "open")) ∙ ends_open (base32 key.0 ++ codes "." ++ decimal key.1)
open_passes key (Some own) = ends_open (named_by key (base32 own))

-- a letter is no dot
letter_not_dot : (n : ℕ) → n < 32 → letter n ≡ 46 → ⊥
letter_not_dot n small dot = elim (cases_lt n 26) [
  | inl low ↦ omega (arith, letter-small n low, dot)
  | inr high ↦ omega (arith, letter-large n high, dot)
]

no_dot : (bytes : List ℕ) (k : ℕ) → k < length (base32 bytes) → get_or (base32 bytes) k 0 ≡ 46 → ⊥
no_dot bytes k inside dot =
    let s = spelled (base32 bytes) bytes refl in
    let within : k < length s.numbers = omega (arith, inside, ap length s.letters ∙ length-map s.numbers letter) in
    let at : get_or (base32 bytes) k 0 ≡ letter (get_or s.numbers k 0) =
    ap (λ (cs : List ℕ). get_or cs k 0) s.letters ∙ get_or-map letter s.numbers k 0 0 within in
    letter_not_dot (get_or s.numbers k 0) (small_at s.numbers k s.small within) (sym at ∙ dot)

-- behind its last dot a closed name has 52 letters
pub no_late_dot : (key : ShareKey) (digest stem tail : List ℕ) → length digest ≡ 32 → closed_name key digest ≡ stem ++ 46 ∷ tail → length tail < 52 → ⊥
no_late_dot key digest stem tail size same few =
    let front = base32 key.0 ++ codes "." ++ decimal key.1 ++ codes "." in
    let long = letters_32 digest size in
    let sum = length-append front (base32 digest) in
    let other = length-append stem (46 ∷ tail) in
    let both = ap length same in
    let late : length front ≤ length stem = omega (arith, long, sum, other, both, few) in
    let within : length stem - length front < length (base32 digest) = omega (arith, long, sum, other, both, late) in
    let at : get_or (front ++ base32 digest) (length stem) 0 ≡ get_or (base32 digest) (length stem - length front) 0 =
    get_or-append_right front (base32 digest) (length front) (length stem) 0 refl late in
    no_dot digest (length stem - length front) within (sym at ∙ ap (λ (xs : List ℕ). get_or xs (length stem) 0) same ∙ get_or_at stem 46 tail 0 (length stem) refl)

-- what ends in a digest's text lasts
module _ (front digest : List ℕ) (size : length digest ≡ 32) where
  letters : List ℕ
  letters = base32 digest

  long : length letters ≡ 52
  unfolding letters
  long = letters_32 digest size

  last_five : drop (length (front ++ letters) - 5) (front ++ letters) ≡ drop 47 letters
  last_five =
      let whole : front ++ letters ≡ (front ++ take 47 letters) ++ drop 47 letters =
      ap (λ (xs : List ℕ). front ++ xs) (sym (take-append-drop 47 letters)) ∙ sym (append_assoc front (take 47 letters) (drop 47 letters)) in
      let size : length (front ++ letters) ≡ length front + length letters = length-append front letters in
      let head : length (front ++ take 47 letters) ≡ length front + length (take 47 letters) = length-append front (take 47 letters) in
      let parts : length letters ≡ length (take 47 letters) + length (drop 47 letters) =
      ap length (sym (take-append-drop 47 letters)) ∙ length-append (take 47 letters) (drop 47 letters) in
      let few : length (drop 47 letters) ≡ 5 = length-drop 47 letters ∙ ap (λ (n : ℕ). n - 47) long in
      ap (drop (length (front ++ letters) - 5)) whole
      ∙ drop_at (front ++ take 47 letters) (drop 47 letters) _ (omega (arith, size, head, parts, few))

  not_open : codes ".open" ≡ drop (length (front ++ letters) - 5) (front ++ letters) → ⊥
  unfolding letters
  not_open same =
      no_dot digest 47 (omega (arith, long))
      (sym (get_or-drop 47 letters 0 0) ∙ ap (λ (xs : List ℕ). get_or xs 0 0) (sym (same ∙ last_five)))

  pub digest_lasts : lasts (front ++ base32 digest) ≡ true
  unfolding lasts letters
  digest_lasts =
      elim (pointwise nat_eq (codes ".open") (drop (length (front ++ letters) - 5) (front ++ letters))) as
      (λ b. pointwise nat_eq (codes ".open") (drop (length (front ++ letters) - 5) (front ++ letters)) ≡ b → not b ≡ true) [
        | true ↦ λ e. absurd (not_open ((bytes_decides (codes ".open") (drop (length (front ++ letters) - 5) (front ++ letters))).0 e))
        | false ↦ λ e. refl
      ] refl

pub closed_lasts : (key : ShareKey) (digest : List ℕ) → length digest ≡ 32 → lasts (closed_name key digest) ≡ true
closed_lasts key digest size = digest_lasts (base32 key.0 ++ codes "." ++ decimal key.1 ++ codes ".") digest size

pub passes_if : {S E : Type 0} (bytes : S → List ℕ) (r : Result S E) (key : ShareKey) (own : Option (List ℕ))
    → IfOk r (λ (t : S). bytes t ≡ open_name key own) → IfOk r (λ (t : S). lasts (bytes t) ≡ false)
passes_if bytes (Ok t) key own is = ap lasts is ∙ open_passes key own
passes_if bytes (Err e) key own is = tt

pub lasts_if : {S E : Type 0} (bytes : S → List ℕ) (r : Result S E) (key : ShareKey) (digest : List ℕ) → length digest ≡ 32
    → IfOk r (λ (t : S). bytes t ≡ closed_name key digest) → IfOk r (λ (t : S). lasts (bytes t) ≡ true)
lasts_if bytes (Ok t) key digest size is = ap lasts is ∙ closed_lasts key digest size
lasts_if bytes (Err e) key digest size is = tt
