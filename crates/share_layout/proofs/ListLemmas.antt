-- Parts of a list, between two offsets.
use Rattle.std.proofs.Common.{◌≡◌, ℕ, ◌+◌, ◌^◌, ◌<◌, ◌≤◌, List, ◌++◌, length, take, drop, get_or, inl, inr, ap, sym, ◌∙◌, append_assoc, length-append, arith}
use Rattle.std.specs.Prelude.{slice_range}
use Rattle.std.proofs.lemmas.List.{take-append-drop, take-take, take_at, drop_at, drop-drop, length-take-le, length-drop, get_or-take, get_or-drop, get_or_past, length-take}
use Rattle.std.proofs.lemmas.Bool.{cases_lt}
use Rattle.std.proofs.lemmas.Slice.{between_is}
use Rattle.share_layout.specs.declared.layout.Layout.{Layout}
use Rattle.share_layout.specs.Layout.{number_in, spelled, width}
use Rattle.share_layout.specs.Offsets.{number_at}
use Rattle.share_layout.proofs.LayoutLemmas.{length-spelled, read_back, small_fits, spelled_again}

-- what stands before one offset, and then up to another
pub take_between : (xs : List ℕ) (a b : ℕ) → a ≤ b → take b xs ≡ take a xs ++ slice_range xs a b
take_between xs a b le = sym (take-append-drop a (take b xs)) ∙ (λ i. take-take a b xs le i ++ sym (between_is xs a b) i)

-- what stands before a part
pub take_before : (xs ys zs : List ℕ) (a b : ℕ) → take b xs ≡ ys ++ zs → length ys ≡ a → a ≤ b → take a xs ≡ ys
take_before xs ys zs a b e long le = sym (take-take a b xs le) ∙ ap (take a) e ∙ take_at ys zs a long

-- a part
pub between_parts : (xs ys zs : List ℕ) (a b : ℕ) → take b xs ≡ ys ++ zs → length ys ≡ a → slice_range xs a b ≡ zs
between_parts xs ys zs a b e long = between_is xs a b ∙ ap (drop a) e ∙ drop_at ys zs a long

-- the bytes behind an offset are below 256
pub bytes_between : (xs : List ℕ) (a w : ℕ) → ((i : ℕ) → get_or xs i 0 < 256) → (i : ℕ) → get_or (take w (drop a xs)) i 0 < 256
bytes_between xs a w small i =
    elim (cases_lt i w) [
      | inl inside ↦ rw (get_or-take w (drop a xs) i 0 inside, get_or-drop a xs i 0) (small (a + i))
      | inr past ↦ rw (get_or_past (take w (drop a xs)) i 0 (omega (arith, past, length-take w (drop a xs)))) (omega arith)
    ]

-- a length in as many bytes as the layout has, and so many bytes
pub tail_text : (l : Layout) (xs : List ℕ) (e : ℕ) → ((i : ℕ) → get_or (take (width l) (drop e xs)) i 0 < 256)
    → length xs ≡ e + width l + number_at l xs e
    → xs ≡ take e xs ++ spelled l (length (drop (e + width l) xs)) ++ drop (e + width l) xs
tail_text l xs e small end =
    let w = width l in
    let left : length (drop (e + w) xs) ≡ number_at l xs e = length-drop (e + w) xs ∙ omega (arith, end) in
    let whole : length (take w (drop e xs)) ≡ w = length-take-le w (drop e xs) (omega (arith, length-drop e xs, end)) in
    let number : spelled l (length (drop (e + w) xs)) ≡ take w (drop e xs) = spelled_again l (take w (drop e xs)) _ whole small left in
    sym (
    append_assoc (take e xs) (spelled l (length (drop (e + w) xs))) (drop (e + w) xs)
    ∙ (λ i. take e xs ++ (number i ++ sym (drop-drop w e xs) i))
    ∙ ap (λ rest. take e xs ++ rest) (take-append-drop w (drop e xs))
    ∙ take-append-drop e xs
    )

-- what stands in such a text
pub record HasTail (l : Layout) (xs : List ℕ) (e : ℕ) (ys : List ℕ) : Type 0 where
  pub number : number_at l xs e ≡ length ys
  pub long : length xs ≡ e + width l + length ys
  pub tail : ys ≡ drop (e + width l) xs

pub has_tail : (l : Layout) (xs front ys : List ℕ) (e : ℕ) → xs ≡ front ++ spelled l (length ys) ++ ys → length front ≡ e → length ys < 2 ^ 32 → HasTail l xs e ys
has_tail l xs front ys e text long short =
    let number = spelled l (length ys) in
    let w = width l in
    let wide : length number ≡ w = length-spelled l (length ys) in
    let behind : drop e xs ≡ number ++ ys = ap (drop e) (text ∙ append_assoc front number ys) ∙ drop_at front (number ++ ys) e long in record {
      number = ap (λ n. number_in l (take w n)) behind ∙ ap (number_in l) (take_at number ys w wide)
          ∙ read_back l (length ys) (small_fits l (length ys) short);
      long = ap length text ∙ length-append (front ++ number) ys ∙ omega (arith, length-append front number, long, wide);
      tail = sym (sym (drop-drop w e xs) ∙ ap (drop w) behind ∙ drop_at number ys w wide);
    }
