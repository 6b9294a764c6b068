-- The parts of the bytes of a range, of which one is written.
use Rattle.std.proofs.Common.{◌≡◌, ℕ, ◌+◌, ◌-◌, ◌*◌, ◌<◌, ◌≤◌, List, [], ◌++◌, length, take, drop, length-drop, inl, inr, ap, sym, ◌∙◌, arith}
use Rattle.std.specs.Prelude.{min}
use Rattle.std.proofs.lemmas.Bool.{cases_lt}
use Rattle.std.proofs.lemmas.List.{append-nil, drop_all, drop_at, drop-take, length-take, length-take-le, take_all, take_at}
use Rattle.std.proofs.lemmas.Slice.{take-put_mid_below}
use borrow.Rule.Slice.PartMut.{post_of, put_mid}
use Rattle.carried_operations.specs.Fetches.{part}
use Rattle.carried_operations.specs.Ranges.{read_count}

-- the parts before the one that is written stay
pub part_other : (n k : ℕ) (m : ℕ) (xs ys : List ℕ) → k < n → n * 32768 ≤ length xs → part k (put_mid (n * 32768) m xs ys) ≡ part k xs
part_other n k m xs ys before room =
    let start : ℕ = k * 32768 in
    let within : start + 32768 ≤ n * 32768 = omega arith in
    sym (drop-take start 32768 (put_mid (n * 32768) m xs ys))
    ∙ ap (drop start) (take-put_mid_below (n * 32768) m xs ys (start + 32768) within room) ∙ drop-take start 32768 xs

-- that one is what was written: it is as long as a part, or the last
pub part_own : (n end : ℕ) (xs ys : List ℕ) → n * 32768 ≤ length xs → end ≡ min (length xs) (n * 32768 + 32768) → length ys ≡ end - n * 32768
    → part n (put_mid (n * 32768) (end - n * 32768) xs ys) ≡ ys
part_own n end xs ys room end_is long =
    let start : ℕ = n * 32768 in
    let behind : List ℕ = post_of start (end - start) xs in
    ap (take 32768) (drop_at (take start xs) (ys ++ behind) start (length-take-le start xs room)) ∙ (elim (cases_lt (length xs) (start + 32768)) [
      | inl last ↦
          let none : behind ≡ [] = drop_all (end - start) (drop start xs) (simp length-drop (omega arith)) in
          ap (λ (l : List ℕ). take 32768 (ys ++ l)) none ∙ ap (take 32768) (append-nil ys) ∙ take_all 32768 ys (omega arith)
      | inr more ↦ take_at ys behind 32768 (omega arith)
    ])

-- how long a window is
pub window_long : (start end : ℕ) (xs : List ℕ) → end ≤ length xs → length (take (end - start) (drop start xs)) ≡ end - start
window_long start end xs within = length-take-le (end - start) (drop start xs) (simp length-drop (omega arith))

-- a part of the bytes of a range is as long as its window among as many
pub part_long : (n end : ℕ) (xs bytes : List ℕ) → length bytes ≡ length xs → end ≡ min (length xs) (n * 32768 + 32768) → length (part n bytes) ≡ end - n * 32768
part_long n end xs bytes long end_is = simp (length-take, length-drop) (omega arith)

-- a part begins within the bytes
pub within : (n long other : ℕ) → n < read_count long → other ≡ long → n * 32768 ≤ other
within n long other there same = omega arith
