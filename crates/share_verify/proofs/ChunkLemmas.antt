-- Lists that are cut into pieces of one length.
use Rattle.std.proofs.Common.{◌≡◌, ℕ, zero, suc, ◌+◌, ◌*◌, ◌<◌, ◌≤◌, List, [], ◌∷◌, ◌++◌, length, get_or, take, drop, ap, refl, sym, ◌∙◌, arith}
use Rattle.std.specs.Simd.{first_chunks}
use Rattle.std.proofs.lemmas.List.{drop-drop, drop_at, length-append, length-drop, length-take-le, nil_from_length, take-append-drop, take_at}
use Rattle.share_verify.specs.Pieces.{joined, pieces}

-- so many chunks
pub length-first_chunks : (n k : ℕ) (xs : List ℕ) → length (first_chunks n k xs) ≡ k
length-first_chunks n zero xs = refl
length-first_chunks n (suc k) xs = ap (λ (j : ℕ). suc j) (length-first_chunks n k (drop n xs))

-- the chunk at a position
pub get_or-first_chunks : (n k : ℕ) (xs : List ℕ) (i : ℕ) (d : List ℕ) → i < k → get_or (first_chunks n k xs) i d ≡ take n (drop (i * n) xs)
get_or-first_chunks n zero xs i d below = absurd (omega arith)
get_or-first_chunks n (suc k) xs zero d below = let none : 0 * n ≡ 0 = omega arith in rw none refl
get_or-first_chunks n (suc k) xs (suc i) d below =
    let next : n + i * n ≡ suc i * n = omega arith in
    get_or-first_chunks n k (drop n xs) i d (omega arith) ∙ ap (take n) (drop-drop (i * n) n xs ∙ ap (λ (j : ℕ). drop j xs) next)

-- a chunk has the length of a chunk
pub length-chunk : (n k : ℕ) (xs : List ℕ) (i : ℕ) (d : List ℕ) → k * n ≤ length xs → i < k → length (get_or (first_chunks n k xs) i d) ≡ n
length-chunk n zero xs i d long below = absurd (omega arith)
length-chunk n (suc k) xs zero d long below = let first : suc k * n ≡ n + k * n = omega arith in length-take-le n xs (omega arith)
length-chunk n (suc k) xs (suc i) d long below =
    let first : suc k * n ≡ n + k * n = omega arith in
    length-chunk n k (drop n xs) i d (omega (arith, length-drop n xs)) (omega arith)

-- the chunks of a list, joined again
pub joined-first_chunks : (n k : ℕ) (xs : List ℕ) → length xs ≡ k * n → joined (first_chunks n k xs) ≡ xs
joined-first_chunks n zero xs none = sym (nil_from_length xs (omega arith))
joined-first_chunks n (suc k) xs long =
    let first : suc k * n ≡ n + k * n = omega arith in
    ap (λ (l : List ℕ). take n xs ++ l) (joined-first_chunks n k (drop n xs) (omega (arith, length-drop n xs))) ∙ take-append-drop n xs

-- the chunks of a list that was joined of lists of one length
pub first_chunks-joined : (n : ℕ) (xs : List (List ℕ)) → ((i : ℕ) → i < length xs → length (get_or xs i []) ≡ n)
    → first_chunks n (length xs) (joined xs) ≡ xs
first_chunks-joined n [] each = refl
first_chunks-joined n (x ∷ xs) each =
    let here : length x ≡ n = each 0 (omega arith) in
    let rest = first_chunks-joined n xs (λ i below. each (suc i) (omega arith)) in
    (λ i. take_at x (joined xs) n here i ∷ first_chunks n (length xs) (drop_at x (joined xs) n here i))
    ∙ ap (λ (l : List (List ℕ)). x ∷ l) rest

-- how long such a list is
pub length-joined : (n : ℕ) (xs : List (List ℕ)) → ((i : ℕ) → i < length xs → length (get_or xs i []) ≡ n) → length (joined xs) ≡ length xs * n
length-joined n [] each = omega arith
length-joined n (x ∷ xs) each =
    let here : length x ≡ n = each 0 (omega arith) in
    let rest = length-joined n xs (λ i below. each (suc i) (omega arith)) in
    let first : suc (length xs) * n ≡ n + length xs * n = omega arith in
    omega (arith, length-append x (joined xs), rest, first)

-- the first chunk
pub first_chunk : (n k : ℕ) (xs d : List ℕ) → 0 < k → get_or (first_chunks n k xs) 0 d ≡ take n xs
first_chunk n k xs d some =
    let none : 0 * n ≡ 0 = omega arith in
    get_or-first_chunks n k xs 0 d some ∙ ap (λ (j : ℕ). take n (drop j xs)) none

-- pieces are chunks
pub pieces_are_chunks : (n size : ℕ) (text : List ℕ) → pieces n size text ≡ first_chunks size n text
pieces_are_chunks zero size text = refl
pieces_are_chunks (suc n) size text = ap (λ (l : List (List ℕ)). take size text ∷ l) (pieces_are_chunks n size (drop size text))
