-- Parts of a list that is written to.
use Rattle.std.proofs.Common.{◌≡◌, ℕ, ◌+◌, ◌≤◌, List, ◌++◌, length, take, drop, sym, ap, ◌∙◌, arith}
use Rattle.std.proofs.lemmas.List.{drop-append-le, drop-take, length-take-le}
use Rattle.std.proofs.lemmas.Slice.{take-put_mid, take-put_mid_below}
use borrow.Rule.Slice.PartMut.{put_mid}

-- a part that ends before what is written
pub part_before : (a k : ℕ) (xs ys : List ℕ) (p n : ℕ) → p + n ≤ a → a ≤ length xs → take n (drop p (put_mid a k xs ys)) ≡ take n (drop p xs)
part_before a k xs ys p n before within =
    sym (drop-take p n (put_mid a k xs ys)) ∙ ap (drop p) (take-put_mid_below a k xs ys (p + n) before within) ∙ drop-take p n xs

-- a part that begins with h items as they were, and goes on with what is written
pub part_at : (a k : ℕ) (xs ys : List ℕ) (p h n : ℕ) → a ≡ p + h → n ≡ h + length ys → a ≤ length xs
    → take n (drop p (put_mid a k xs ys)) ≡ take h (drop p xs) ++ ys
part_at a k xs ys p h n at long within =
    let end : p + n ≡ a + length ys = omega arith in
    let front : length (take a xs) ≡ a = length-take-le a xs within in
    sym (drop-take p n (put_mid a k xs ys))
    ∙ ap (drop p) (take-put_mid a k xs ys (p + n) end within)
    ∙ drop-append-le p (take a xs) ys (omega arith)
    ∙ ap (λ (q : ℕ). drop p (take q xs) ++ ys) at
    ∙ ap (λ (l : List ℕ). l ++ ys) (drop-take p h xs)
