-- The names of files.
use Rattle.std.proofs.Common.{◌≡◌, ℕ, ◌+◌, ◌-◌, ◌<◌, Bool, true, false, not, List, [], ◌∷◌, ◌++◌, length, take, drop, refl, sym, ap, ◌∙◌, arith}
use mathlib.Core.Bool.{true≢false}
use Rattle.std.specs.Prelude.{Option, Some, None, MatchOption, IfSome, IsSomeAnd, nat_eq, decimal, codes}
use Rattle.std.specs.Cmp.Lexicographic.{pointwise, bytes_decides}
use Rattle.std.proofs.lemmas.List.{take-append-drop, take_at, drop_at, append_assoc, length-append, same_from_push}
use Rattle.cap_text.specs.Base32.{base32}
use Rattle.cap_text.proofs.Reading.{spelled, sizes}
use Rattle.share_store.specs.Shelf.{ShareKey}
use Rattle.share_folders.specs.Names.{IsShareKey, named_by}

-- what is left of a text without a first and a last dot
pub stands_between : {X : Type 0} (N : Type 0) (f : X → List ℕ) (text mid : List ℕ) (r : Option X) → pointwise nat_eq (take 1 text) (46 ∷ []) ≡ true → mid ≡ drop 1 text
    → MatchOption r N (λ x. (pointwise nat_eq (drop (length mid - 1) mid) (46 ∷ []) ≡ true) × (f x ≡ take (length mid - 1) mid) × (length (f x) + 1 ≡ length mid))
    → IfSome r (λ x. text ≡ 46 ∷ (f x ++ 46 ∷ []))
stands_between N f text mid None first rest last = tt
stands_between N f text mid (Some x) first rest last =
    let dot = (bytes_decides (take 1 text) (46 ∷ [])).0 first in
    let end = (bytes_decides (drop (length mid - 1) mid) (46 ∷ [])).0 last.0 in
    let whole : f x ++ 46 ∷ [] ≡ mid = ap (λ (xs : List ℕ). xs ++ 46 ∷ []) last.1 ∙ ap (λ (xs : List ℕ). take (length mid - 1) mid ++ xs) (sym end) ∙ take-append-drop (length mid - 1) mid in
    sym (take-append-drop 1 text) ∙ ap (λ (xs : List ℕ). xs ++ drop 1 text) dot ∙ ap (λ (xs : List ℕ). 46 ∷ xs) (sym rest ∙ sym whole)

-- a text between dots begins with one
pub begins : (text inner : List ℕ) → text ≡ 46 ∷ (inner ++ 46 ∷ []) → pointwise nat_eq (take 1 text) (46 ∷ []) ≡ false → ⊥
begins text inner is differs = true≢false (ap (λ (xs : List ℕ). pointwise nat_eq (take 1 xs) (46 ∷ [])) (sym is) ∙ differs)

-- and ends with one
ends_at : (inner mid : List ℕ) → mid ≡ inner ++ 46 ∷ [] → drop (length mid - 1) mid ≡ 46 ∷ []
ends_at inner mid is =
    let long : length (inner ++ 46 ∷ []) ≡ length inner + 1 = length-append inner (46 ∷ []) in
    ap (λ (xs : List ℕ). drop (length xs - 1) xs) is ∙ drop_at inner (46 ∷ []) _ (omega (arith, long))

pub found_between : {X : Type 0} (P : X → Type 0) (f : X → List ℕ) (text mid inner : List ℕ) (r : Option X) → text ≡ 46 ∷ (inner ++ 46 ∷ []) → mid ≡ drop 1 text
    → MatchOption r (pointwise nat_eq (drop (length mid - 1) mid) (46 ∷ []) ≡ false) P → IfSome r (λ x. text ≡ 46 ∷ (f x ++ 46 ∷ []))
    → IsSomeAnd r (λ x. f x ≡ inner)
found_between P f text mid inner None is rest differs value =
    absurd (true≢false (ap (λ (xs : List ℕ). pointwise nat_eq xs (46 ∷ [])) (sym (ends_at inner mid (rest ∙ ap (drop 1) is))) ∙ differs))
found_between P f text mid inner (Some x) is rest some value = (same_from_push (f x) inner 46 46 (ap (drop 1) (sym value ∙ is))).0

-- the text of 16 bytes, and of a digest
pub letters_16 : (bytes : List ℕ) → length bytes ≡ 16 → length (base32 bytes) ≡ 26
letters_16 bytes len =
    let size = sizes (base32 bytes) bytes (spelled (base32 bytes) bytes refl) in
    omega (arith, size.few, size.total, len)

pub letters_32 : (bytes : List ℕ) → length bytes ≡ 32 → length (base32 bytes) ≡ 52
letters_32 bytes len =
    let size = sizes (base32 bytes) bytes (spelled (base32 bytes) bytes refl) in
    omega (arith, size.few, size.total, len)

five : (a b c d e : List ℕ) → a ++ b ++ c ++ d ++ e ≡ a ++ (b ++ (c ++ (d ++ e)))
five a b c d e = append_assoc (a ++ b ++ c) d e ∙ append_assoc (a ++ b) c (d ++ e) ∙ append_assoc a b (c ++ (d ++ e))

-- a name from the left
from_left : (key : ShareKey) (end : List ℕ) → named_by key end ≡ base32 key.0 ++ (46 ∷ (decimal key.1 ++ (46 ∷ end)))
from_left key end = five (base32 key.0) (46 ∷ []) (decimal key.1) (46 ∷ []) end

mid : ℕ → List ℕ
mid n = 46 ∷ (decimal n ++ 46 ∷ [])

pub index_part : (name : List ℕ) (key : ShareKey) (end : List ℕ) → IsShareKey key → name ≡ named_by key end → take 26 name ≡ base32 key.0
index_part name key end placed is = ap (take 26) (is ∙ from_left key end) ∙ take_at (base32 key.0) (46 ∷ (decimal key.1 ++ (46 ∷ end))) 26 (letters_16 key.0 placed.0.len)

rest_part : (name : List ℕ) (key : ShareKey) (end : List ℕ) → IsShareKey key → name ≡ named_by key end → drop 26 name ≡ mid key.1 ++ end
unfolding mid
rest_part name key end placed is =
    ap (drop 26) (is ∙ from_left key end) ∙ drop_at (base32 key.0) (46 ∷ (decimal key.1 ++ (46 ∷ end))) 26 (letters_16 key.0 placed.0.len)
    ∙ ap (λ (xs : List ℕ). 46 ∷ xs) (sym (append_assoc (decimal key.1) (46 ∷ []) end))

before_end : (n count : ℕ) (end : List ℕ) → length end ≡ count → length (mid n) ≡ length (mid n ++ end) - count
before_end n count end len =
    let long = length-append (mid n) end in
    omega (arith, long, len)

pub share_part : (name : List ℕ) (key : ShareKey) (count : ℕ) (end : List ℕ) → IsShareKey key → length end ≡ count → name ≡ named_by key end
    → take (length (drop 26 name) - count) (drop 26 name) ≡ 46 ∷ (decimal key.1 ++ 46 ∷ [])
unfolding mid
share_part name key count end placed len is =
    ap (λ (xs : List ℕ). take (length xs - count) xs) (rest_part name key end placed is)
    ∙ take_at (mid key.1) end _ (before_end key.1 count end len)

pub end_part : (name : List ℕ) (key : ShareKey) (count : ℕ) (end : List ℕ) → IsShareKey key → length end ≡ count → name ≡ named_by key end
    → drop (length (drop 26 name) - count) (drop 26 name) ≡ end
end_part name key count end placed len is =
    ap (λ (xs : List ℕ). drop (length xs - count) xs) (rest_part name key end placed is)
    ∙ drop_at (mid key.1) end _ (before_end key.1 count end len)

pub long_enough : (name : List ℕ) (key : ShareKey) (count : ℕ) (end : List ℕ) → IsShareKey key → length end ≡ count → name ≡ named_by key end → length name < 26 + count → ⊥
long_enough name key count end placed len is short =
    let first = length-append (base32 key.0) (46 ∷ (decimal key.1 ++ (46 ∷ end))) in
    let last = length-append (decimal key.1) (46 ∷ end) in
    let whole : length name ≡ length (base32 key.0 ++ (46 ∷ (decimal key.1 ++ (46 ∷ end)))) = ap length (is ∙ from_left key end) in
    omega (arith, whole, first, last, letters_16 key.0 placed.0.len, len, short)

-- what its parts are put together to
pub parts : (name front rest share end index : List ℕ) (n count : ℕ) → front ≡ take 26 name → rest ≡ drop 26 name → share ≡ take (length rest - count) rest
    → end ≡ drop (length rest - count) rest → share ≡ 46 ∷ (decimal n ++ 46 ∷ []) → front ≡ base32 index → name ≡ named_by (index, n) end
unfolding mid
parts name front rest share end index n count front_is rest_is share_is end_is mid_is index_is =
    sym (take-append-drop 26 name) ∙ ap (λ (xs : List ℕ). xs ++ drop 26 name) (sym front_is ∙ index_is)
    ∙ ap (λ (xs : List ℕ). base32 index ++ xs) (sym rest_is ∙ sym (take-append-drop (length rest - count) rest) ∙ ap (λ (xs : List ℕ). xs ++ drop (length rest - count) rest) (sym share_is ∙ mid_is)
    ∙ ap (λ (xs : List ℕ). mid n ++ xs) (sym end_is) ∙ ap (λ (xs : List ℕ). 46 ∷ xs) (append_assoc (decimal n) (46 ∷ []) end)) ∙ sym (from_left (index, n) end)

-- what is not found to differ is the end of an open share's name
pub same_end : (end : List ℕ) (differs : Bool) → differs ≡ false → differs ≡ not (pointwise nat_eq end (codes "open")) → end ≡ codes "open"
same_end end differs not_so is =
    (bytes_decides end (codes "open")).0 (elim (pointwise nat_eq end (codes "open")) as (λ b. not b ≡ false → b ≡ true) [
      | true ↦ λ e. refl
      | false ↦ λ e. absurd (true≢false e)
    ] (sym is ∙ not_so))

-- what stands before the end of an open share's name
pub before_open : (name stem : List ℕ) → pointwise nat_eq (drop (length name - 5) name) (codes ".open") ≡ true → stem ≡ take (length name - 5) name → name ≡ stem ++ codes ".open"
before_open name stem same is =
    sym (take-append-drop (length name - 5) name) ∙ ap (λ (xs : List ℕ). xs ++ drop (length name - 5) name) (sym is)
    ∙ ap (λ (xs : List ℕ). stem ++ xs) ((bytes_decides (drop (length name - 5) name) (codes ".open")).0 same)

pub stem_is : (name stem other : List ℕ) → stem ≡ take (length name - 5) name → name ≡ other ++ codes ".open" → stem ≡ other
stem_is name stem other is ends =
    let long : length (other ++ codes ".open") ≡ length other + 5 = length-append other (codes ".open") in
    is ∙ ap (λ (xs : List ℕ). take (length xs - 5) xs) ends ∙ take_at other (codes ".open") _ (omega (arith, long))
