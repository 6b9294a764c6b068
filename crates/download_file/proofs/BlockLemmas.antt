-- The blocks of readers, one after another.
use Rattle.std.proofs.Common.{◌≡◌, ℕ, zero, suc, ◌+◌, ◌-◌, ◌<◌, inl, inr, min, List, [], ◌∷◌, ◌++◌, Contains, length, map, take, drop, get_or, Some, refl, sym, ap, subst, ◌∙◌, arith}
use Rattle.std.specs.Prelude.{slice_get, slice_range}
use Rattle.std.specs.List.{concat, flat_map}
use Rattle.std.proofs.lemmas.Bool.{cases_lt}
use Rattle.std.proofs.lemmas.List.{append-nil, length-append, length-drop, map-append, take_all, take_more}
use Rattle.std.proofs.lemmas.List.Folds.{concat-append}
use Rattle.std.proofs.lemmas.List.Concat.{flat_map-append}
use Rattle.std.proofs.lemmas.List.Elements.{Contains-push_cases}
use Rattle.lemmas.proofs.Options.{one_there}
use Rattle.request_record.specs.declared.requests.Request.{Request}
use Rattle.download_supply.specs.Blocks.{IsReady}
use Rattle.download_file.specs.State.{ReaderState, numbers_of, share_in}
use Rattle.download_file.specs.Answers.{answer_at, block_in, block_of, blocks_of}
use Rattle.download_file.specs.Steps.{AreReady}

pub ready_none : (readers : List ReaderState) (positions : List ℕ) (number : ℕ) → AreReady readers (take 0 positions) number
ready_none readers positions number position r among there = absurd (let k = among.1 in omega (arith, k))

pub ready_more : (readers : List ReaderState) (positions : List ℕ) (number i position : ℕ) (r : ReaderState) → i < length positions → position ≡ get_or positions i 0
    → slice_get readers position ≡ Some r → IsReady r.supply number → AreReady readers (take i positions) number → AreReady readers (take (i + 1) positions) number
ready_more readers positions number i position r low is there ready before q s among at =
    elim (Contains-push_cases (take i positions) (get_or positions i 0) q (subst (λ (l : List ℕ). Contains l q) (take_more positions i 0 low) among)) [
      | inl k ↦ before q s k at
      | inr e ↦ subst (λ (t : ReaderState). IsReady t.supply number) (one_there (slice_get readers position) r s there (ap (slice_get readers) (is ∙ e) ∙ at)) ready
    ]

-- ---- blocks that are joined

-- one block more
pub blocks_more : (entries : List Request) (readers : List ReaderState) (number : ℕ) (positions : List ℕ) (i : ℕ) (r : ReaderState) → i < length positions
    → slice_get readers (get_or positions i 0) ≡ Some r
    → blocks_of entries readers number (take (i + 1) positions) ≡ blocks_of entries readers number (take i positions) ++ block_of entries r.supply number
blocks_more entries readers number positions i r low at =
    let f : ℕ → List ℕ = λ position. block_in entries number (slice_get readers position) in
    let p = get_or positions i 0 in
    ap (flat_map f) (take_more positions i 0 low) ∙ flat_map-append f (take i positions) (p ∷ [])
    ∙ ap (λ (b : List ℕ). flat_map f (take i positions) ++ b) (append-nil (f p) ∙ ap (block_in entries number) at)

-- the bytes that are taken of a piece, where so many were skipped and taken before
pub piece_taken : (size offset : ℕ) (read bytes : List ℕ) (skipped left from upto : ℕ)
    → skipped ≡ offset - length read → left ≡ size - length (drop offset read)
    → from ≡ min skipped (length bytes) → upto ≡ min (length bytes) (from + left)
    → take size (drop offset (read ++ bytes)) ≡ take size (drop offset read) ++ slice_range bytes from upto
piece_taken size offset read bytes skipped left from upto skips leaves begins ends =
    let rest = drop skipped bytes in
    let whole : drop offset (read ++ bytes) ≡ drop offset read ++ rest = dropped offset read bytes ∙ ap (λ (n : ℕ). drop offset read ++ drop n bytes) (sym skips) in
    let taken : take size (drop offset read ++ rest) ≡ take size (drop offset read) ++ take left rest =
    took size (drop offset read) rest ∙ ap (λ (n : ℕ). take size (drop offset read) ++ take n rest) (sym leaves) in
    ap (take size) whole ∙ taken ∙ ap (λ (l : List ℕ). take size (drop offset read) ++ l) (same_piece left skipped bytes from upto begins ends)
  where
    dropped : (n : ℕ) (xs ys : List ℕ) → drop n (xs ++ ys) ≡ drop n xs ++ drop (n - length xs) ys
    dropped zero xs ys = ap (λ (k : ℕ). xs ++ drop k ys) (let e : 0 ≡ 0 - length xs = omega arith in e)
    dropped (suc n) [] ys = ap (λ (k : ℕ). drop k ys) (let e : suc n ≡ suc n - 0 = omega arith in e)
    dropped (suc n) (x ∷ xs) ys = dropped n xs ys ∙ ap (λ (k : ℕ). drop n xs ++ drop k ys) (let e : n - length xs ≡ suc n - suc (length xs) = omega arith in e)

    took : (n : ℕ) (xs ys : List ℕ) → take n (xs ++ ys) ≡ take n xs ++ take (n - length xs) ys
    took zero xs ys = ap (λ (k : ℕ). take k ys) (let e : 0 ≡ 0 - length xs = omega arith in e)
    took (suc n) [] ys = ap (λ (k : ℕ). take k ys) (let e : suc n ≡ suc n - 0 = omega arith in e)
    took (suc n) (x ∷ xs) ys = ap (λ (l : List ℕ). x ∷ l) (took n xs ys ∙ ap (λ (k : ℕ). take n xs ++ take k ys) (let e : n - length xs ≡ suc n - suc (length xs) = omega arith in e))

    same_piece : (left skipped : ℕ) (bytes : List ℕ) (from upto : ℕ) → from ≡ min skipped (length bytes) → upto ≡ min (length bytes) (from + left)
        → take left (drop skipped bytes) ≡ take (upto - from) (drop from bytes)
    same_piece left skipped bytes from upto begins ends =
        elim (cases_lt skipped (length bytes)) [
          | inl low ↦
              let same : skipped ≡ from = omega (arith, low, begins) in
              let long : length (drop from bytes) ≡ length bytes - from = length-drop from bytes in
              ap (λ (n : ℕ). take left (drop n bytes)) same
              ∙ elim (cases_lt left (length bytes - from)) [
                | inl few ↦ let e : left ≡ upto - from = omega (arith, few, ends) in ap (λ (n : ℕ). take n (drop from bytes)) e
                | inr many ↦
                    let e : upto - from ≡ length bytes - from = omega (arith, many, ends, begins, low) in
                    take_all left (drop from bytes) (omega (arith, many, long))
                    ∙ sym (take_all (upto - from) (drop from bytes) (omega (arith, e, long)))
              ]
          | inr high ↦
              let none : drop skipped bytes ≡ [] = empty (drop skipped bytes) (omega (arith, length-drop skipped bytes, high)) in
              let also : drop from bytes ≡ [] = empty (drop from bytes) (omega (arith, length-drop from bytes, high, begins)) in
              take_nil left (drop skipped bytes) none ∙ sym (take_nil (upto - from) (drop from bytes) also)
        ]
      where
        empty : (xs : List ℕ) → length xs ≡ 0 → xs ≡ []
        empty [] e = refl
        empty (x ∷ xs) e = absurd (omega (arith, e))

        take_nil : (n : ℕ) (xs : List ℕ) → xs ≡ [] → take n xs ≡ []
        take_nil zero xs e = refl
        take_nil (suc n) [] e = refl
        take_nil (suc n) (x ∷ xs) e = absurd cc

-- so many bytes more were taken
pub counts_more : (size offset : ℕ) (read bytes : List ℕ) (skipped left from upto : ℕ)
    → skipped ≡ offset - length read → left ≡ size - length (drop offset read)
    → from ≡ min skipped (length bytes) → upto ≡ min (length bytes) (from + left)
    → (left - (upto - from) ≡ size - length (drop offset (read ++ bytes))) × (skipped - from ≡ offset - length (read ++ bytes))
counts_more size offset read bytes skipped left from upto skips leaves begins ends =
    let all = length-append read bytes in
    let one = length-drop offset read in
    let two = length-drop offset (read ++ bytes) in
    (omega (arith, skips, leaves, begins, ends, all, one, two), omega (arith, skips, begins, all))

-- one piece more is read
pub read_more : (entries : List Request) (positions : List ℕ) (i : ℕ) (bytes : List ℕ) → i < length positions → bytes ≡ answer_at entries (get_or positions i 0)
    → concat (map (answer_at entries) (take (i + 1) positions)) ≡ concat (map (answer_at entries) (take i positions)) ++ bytes
read_more entries positions i bytes low is =
    let f : ℕ → List ℕ = answer_at entries in
    let p = get_or positions i 0 in
    ap (λ (l : List ℕ). concat (map f l)) (take_more positions i 0 low)
    ∙ ap concat (map-append f (take i positions) (p ∷ []))
    ∙ concat-append (map f (take i positions)) (f p ∷ [])
    ∙ ap (λ (b : List ℕ). concat (map f (take i positions)) ++ b) (append-nil (f p) ∙ sym is)

-- one number more
pub numbers_more : (readers : List ReaderState) (positions : List ℕ) (i : ℕ) (r : ReaderState) → i < length positions → slice_get readers (get_or positions i 0) ≡ Some r
    → numbers_of readers (take (i + 1) positions) ≡ numbers_of readers (take i positions) ++ r.share ∷ []
numbers_more readers positions i r low at =
    let f : ℕ → ℕ = λ position. share_in (slice_get readers position) in
    let p = get_or positions i 0 in
    ap (map f) (take_more positions i 0 low) ∙ map-append f (take i positions) (p ∷ [])
    ∙ ap (λ (n : ℕ). map f (take i positions) ++ n ∷ []) (ap share_in at)
