-- Pieces of a text over which parts are written in order.
use Rattle.std.proofs.Common.{◌≡◌, ℕ, zero, suc, ◌+◌, ◌-◌, ◌≤◌, List, [], ◌∷◌, ◌++◌, length, take, drop, replicate, refl, ap, sym, subst, ◌∙◌, arith}
use Rattle.std.proofs.lemmas.List.{append_assoc, drop-drop, drop_all, drop_at, length-append, length-drop, length-replicate, length-take, length-take-le, take-append-drop, take_all, take_at}
use Rattle.block_making.specs.Making.{IsPieceOf, put_at}

-- ---- parts of two lists, one after the other

drop-append : (o : ℕ) (xs ys : List ℕ) → drop o (xs ++ ys) ≡ drop o xs ++ drop (o - length xs) ys
drop-append zero xs ys = let e : 0 ≡ 0 - length xs = omega arith in ap (λ n. xs ++ drop n ys) e
drop-append (suc o) [] ys = let e : suc o ≡ suc o - 0 = omega arith in ap (λ n. drop n ys) e
drop-append (suc o) (x ∷ xs) ys = let e : o - length xs ≡ suc o - suc (length xs) = omega arith in drop-append o xs ys ∙ ap (λ n. drop o xs ++ drop n ys) e

take-append : (n : ℕ) (xs ys : List ℕ) → take n (xs ++ ys) ≡ take n xs ++ take (n - length xs) ys
take-append zero xs ys = let e : 0 ≡ 0 - length xs = omega arith in ap (λ n. take n ys) e
take-append (suc n) [] ys = let e : suc n ≡ suc n - 0 = omega arith in ap (λ m. take m ys) e
take-append (suc n) (x ∷ xs) ys =
    let e : n - length xs ≡ suc n - suc (length xs) = omega arith in
    ap (λ (l : List ℕ). x ∷ l) (take-append n xs ys ∙ ap (λ m. take n xs ++ take m ys) e)

-- so a piece of two lists is one of each
piece-append : (n o : ℕ) (xs ys : List ℕ) → take n (drop o (xs ++ ys)) ≡ take n (drop o xs) ++ take (n - (length xs - o)) (drop (o - length xs) ys)
piece-append n o xs ys =
    ap (take n) (drop-append o xs ys) ∙ take-append n (drop o xs) (drop (o - length xs) ys)
    ∙ ap (λ m. take n (drop o xs) ++ take (n - m) (drop (o - length xs) ys)) (length-drop o xs)

take-again : (m n : ℕ) (xs : List ℕ) → take m (take n xs) ≡ take n (take m xs)
take-again zero zero xs = refl
take-again zero (suc n) xs = refl
take-again (suc m) zero xs = refl
take-again (suc m) (suc n) [] = refl
take-again (suc m) (suc n) (x ∷ xs) = ap (λ (l : List ℕ). x ∷ l) (take-again m n xs)

drop-taken : (m n : ℕ) (xs : List ℕ) → drop m (take n xs) ≡ take (n - m) (drop m xs)
drop-taken zero n xs = let e : n ≡ n - 0 = omega arith in ap (λ k. take k xs) e
drop-taken (suc m) zero xs = let e : 0 ≡ 0 - suc m = omega arith in ap (λ k. take k (drop (suc m) xs)) e
drop-taken (suc m) (suc n) [] = sym (take_all (suc n - suc m) [] (omega arith))
drop-taken (suc m) (suc n) (x ∷ xs) = let e : n - m ≡ suc n - suc m = omega arith in drop-taken m n xs ∙ ap (λ k. take k (drop m xs)) e

-- ---- one part more

-- The first part of the text stands; the next is written behind it. So that stands too.
pub put-next : (begin offset : ℕ) (front rest part out new : List ℕ) → length front ≡ begin → new ≡ put_at begin part offset out → length new ≡ length out
    → IsPieceOf (front ++ rest) offset out → IsPieceOf (front ++ part ++ drop (length part) rest) offset new
put-next begin offset front rest part out new here is long piece =
    let n : ℕ = length out in
    let a : ℕ = length front in
    let m : ℕ = length part in
    let e : ℕ = begin + m - offset in
    let text : List ℕ = front ++ rest in
    let before : take (begin - offset) out ≡ take n (drop offset front) =
    ap (take (begin - offset)) piece ∙ take-again (begin - offset) n (drop offset text)
    ∙ ap (λ (l : List ℕ). take n (take (begin - offset) l)) (drop-append offset front rest)
    ∙ ap (take n) (take_at (drop offset front) (drop (offset - a) rest) (begin - offset) (length-drop offset front ∙ ap (λ k. k - offset) here)) in
    let both : length (front ++ part) ≡ a + m = length-append front part in
    let none : drop (offset + e) front ≡ [] = drop_all (offset + e) front (omega (arith, here)) in
    let there : offset + e - a ≡ m + (offset - length (front ++ part)) = omega (arith, here, both) in
    let left : n - e ≡ n - (length (front ++ part) - offset) = omega (arith, here, both) in
    let after : drop e out ≡ take (n - (length (front ++ part) - offset)) (drop (offset - length (front ++ part)) (drop m rest)) =
    ap (drop e) piece ∙ drop-taken e n (drop offset text) ∙ ap (take (n - e)) (drop-drop e offset text ∙ drop-append (offset + e) front rest)
    ∙ (λ p. take (left p) (none p ++ drop (there p) rest))
    ∙ ap (take (n - (length (front ++ part) - offset))) (sym (drop-drop (offset - length (front ++ part)) m rest)) in
    let mid : take (n - (begin - offset)) (drop (offset - begin) part) ≡ take (n - (a - offset)) (drop (offset - a) part) =
    λ p. take (n - (sym here p - offset)) (drop (offset - sym here p) part) in
    is ∙ (λ p. before p ++ mid p ++ after p)
    ∙ ap (λ (l : List ℕ). l ++ take (n - (length (front ++ part) - offset)) (drop (offset - length (front ++ part)) (drop m rest))) (sym (piece-append n offset front part))
    ∙ sym (piece-append n offset (front ++ part) (drop m rest))
    ∙ ap (λ k. take k (drop offset (front ++ part ++ drop m rest))) (sym long)

-- ---- parts that a piece does not meet

-- what ends before it may be other bytes
pub piece-behind : (offset : ℕ) (xs ys rest out : List ℕ) → length xs ≡ length ys → length xs ≤ offset → IsPieceOf (xs ++ rest) offset out → IsPieceOf (ys ++ rest) offset out
piece-behind offset xs ys rest out same low piece =
    let one : drop offset (xs ++ rest) ≡ drop (offset - length xs) rest =
    drop-append offset xs rest ∙ ap (λ (l : List ℕ). l ++ drop (offset - length xs) rest) (drop_all offset xs low) in
    let other : drop offset (ys ++ rest) ≡ drop (offset - length ys) rest =
    drop-append offset ys rest ∙ ap (λ (l : List ℕ). l ++ drop (offset - length ys) rest) (drop_all offset ys (omega (arith, same, low))) in
    piece ∙ ap (take (length out)) (one ∙ ap (λ n. drop (offset - n) rest) same ∙ sym other)

-- so may what begins behind it
pub piece-before : (offset : ℕ) (front xs ys out : List ℕ) → offset + length out ≤ length front → IsPieceOf (front ++ xs) offset out → IsPieceOf (front ++ ys) offset out
piece-before offset front xs ys out low piece =
    let n : ℕ = length out in
    let none : n - (length front - offset) ≡ 0 = omega (arith, low) in
    piece ∙ piece-append n offset front xs ∙ (λ p. take n (drop offset front) ++ take (none p) (drop (offset - length front) xs))
    ∙ (λ p. take n (drop offset front) ++ take (sym none p) (drop (offset - length front) ys)) ∙ sym (piece-append n offset front ys)

-- ---- zero bytes

abbrev pub zeros : ℕ → List ℕ
zeros n = replicate n 0

zeros-more : (m n : ℕ) → zeros m ++ zeros n ≡ zeros (m + n)
zeros-more zero n = let e : n ≡ 0 + n = omega arith in ap zeros e
zeros-more (suc m) n = let e : suc (m + n) ≡ suc m + n = omega arith in ap (λ (l : List ℕ). 0 ∷ l) (zeros-more m n) ∙ ap zeros e

zeros-taken : (n total : ℕ) → n ≤ total → zeros n ≡ take n (zeros total)
zeros-taken zero total low = refl
zeros-taken (suc n) zero low = absurd (omega arith)
zeros-taken (suc n) (suc total) low = ap (λ (l : List ℕ). 0 ∷ l) (zeros-taken n total (omega (arith, low)))

zeros-left : (offset total : ℕ) → zeros (total - offset) ≡ drop offset (zeros total)
zeros-left zero total = let e : total - 0 ≡ total = omega arith in ap zeros e
zeros-left (suc offset) zero = let e : 0 - suc offset ≡ 0 = omega arith in ap zeros e
zeros-left (suc offset) (suc total) = let e : suc total - suc offset ≡ total - offset = omega arith in ap zeros e ∙ zeros-left offset total

-- zero bytes are a piece of zero bytes
pub piece-zeros : (offset n a b c d : ℕ) → offset + n ≤ a + b + (c + d)
    → IsPieceOf (zeros a ++ zeros b ++ (zeros c ++ zeros d)) offset (zeros n)
piece-zeros offset n a b c d low =
    let all : zeros (a + b + (c + d)) ≡ zeros a ++ zeros b ++ (zeros c ++ zeros d) =
    sym (zeros-more (a + b) (c + d)) ∙ λ p. sym (zeros-more a b) p ++ sym (zeros-more c d) p in
    zeros-taken n (a + b + (c + d) - offset) (omega (arith, low)) ∙ ap (take n) (zeros-left offset (a + b + (c + d)) ∙ ap (drop offset) all)
    ∙ ap (λ k. take k (drop offset (zeros a ++ zeros b ++ (zeros c ++ zeros d)))) (sym (length-replicate n 0))

-- ---- two parts, one behind the other

length-put_at : (begin offset : ℕ) (part out : List ℕ) → length (put_at begin part offset out) ≡ length out
length-put_at begin offset part out =
    let front : List ℕ = take (begin - offset) out in
    let mid : List ℕ = take (length out - (begin - offset)) (drop (offset - begin) part) in
    length-append (front ++ mid) (drop (begin + length part - offset) out)
    ∙ omega (
      arith,
      length-append front mid,
      length-take (begin - offset) out,
      length-take (length out - (begin - offset)) (drop (offset - begin) part),
      length-drop (offset - begin) part,
      length-drop (begin + length part - offset) out,
    )

-- any bytes are a piece of some text
of_some : (begin offset : ℕ) (out : List ℕ) → IsPieceOf (zeros offset ++ out ++ zeros begin) offset out
of_some begin offset out =
    sym (
    ap (λ (t : List ℕ). take (length out) (drop offset t)) (append_assoc (zeros offset) out (zeros begin))
    ∙ ap (take (length out)) (drop_at (zeros offset) (out ++ zeros begin) offset (length-replicate offset 0))
    ∙ take_at out (zeros begin) (length out) refl
    )

-- they are one part
pub put-twice : (begin offset : ℕ) (first second out mid new : List ℕ) → mid ≡ put_at begin first offset out → new ≡ put_at (begin + length first) second offset mid
    → new ≡ put_at begin (first ++ second) offset out
put-twice begin offset first second out mid new is then =
    let text : List ℕ = zeros offset ++ out ++ zeros begin in
    let front : List ℕ = take begin text in
    let rest : List ℕ = drop begin text in
    let long : length front ≡ begin =
    length-take-le begin text (omega (arith, length-append (zeros offset ++ out) (zeros begin), length-replicate {A = ℕ} begin 0)) in
    let old : IsPieceOf (front ++ rest) offset out = subst (λ (t : List ℕ). IsPieceOf t offset out) (sym (take-append-drop begin text)) (of_some begin offset out) in
    let same : length mid ≡ length out = ap length is ∙ length-put_at begin offset first out in
    let same_too : length new ≡ length mid = ap length then ∙ length-put_at (begin + length first) offset second mid in
    let one = put-next begin offset front rest first out mid long is same old in
    let two = put-next (begin + length first) offset (front ++ first) (drop (length first) rest) second mid new
    (length-append front first ∙ ap (λ n. n + length first) long) then same_too one in
    let both : List ℕ = put_at begin (first ++ second) offset out in
    let size : length both ≡ length out = length-put_at begin offset (first ++ second) out in
    let once = put-next begin offset front rest (first ++ second) out both long refl size old in
    let left : drop (length second) (drop (length first) rest) ≡ drop (length (first ++ second)) rest =
    drop-drop (length second) (length first) rest ∙ ap (λ n. drop n rest) (sym (length-append first second)) in
    let texts : front ++ first ++ second ++ drop (length second) (drop (length first) rest) ≡ front ++ (first ++ second) ++ drop (length (first ++ second)) rest =
    λ p. append_assoc front first second p ++ left p in
    two ∙ (λ p. take ((same_too ∙ same ∙ sym size) p) (drop offset (texts p))) ∙ sym once
