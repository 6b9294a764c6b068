-- The blocks of a share, joined and cut again.
use Rattle.std.proofs.Common.{◌≡◌, ℕ, zero, suc, ◌+◌, ◌-◌, ◌*◌, ◌/◌, ◌<◌, ◌≤◌, List, [], ◌∷◌, length, map, take, drop, replicate, inl, inr, ap, refl, sym, ◌∙◌, arith}
use Rattle.std.specs.Int.{div_ceil}
use Rattle.std.proofs.Math.Nat.{mul-add-div_right, mul-add-mod_self_right, mul-div_cancel, mul-le-mul_right}
use Rattle.std.proofs.lemmas.Bool.{cases_lt}
use Rattle.std.proofs.lemmas.Grind.{div_ceil_times}
use Rattle.std.proofs.lemmas.List.{append-nil, drop_at, length-append, length-drop, length-replicate, length-take-le, take_all, take_at}
use Rattle.std.proofs.lemmas.List.FromFn.{length-map-range_with_len}
use Rattle.ueb.specs.Shape.{rounded_up}
use Rattle.share_verify.specs.Pieces.{joined}
use Rattle.share_layout.specs.Pieces.{pieces}
use Rattle.file_encoding.specs.Encoding.{block_of, padded_segment}

module _ (b k i : ℕ) (some : 0 < k) where
  -- whole blocks more
  div_ceil_more : (r : ℕ) → div_ceil (b * k + r) k ≡ b + div_ceil r k
  div_ceil_more r = rw (mul-add-div_right some b r, mul-add-mod_self_right b k r) (omega arith)

  pub div_ceil_within : (r : ℕ) → r ≤ b * k → div_ceil r k ≤ b
  div_ceil_within r low =
      elim (cases_lt b (div_ceil r k)) [
        | inl above ↦ let next : (b + 1) * k ≡ b * k + k = omega arith in absurd (omega (arith, next, mul-le-mul_right {m = b + 1} {n = div_ceil r k} k (omega arith), (div_ceil_times r k some).1))
        | inr within ↦ within
      ]

  div_ceil_none : div_ceil 0 k ≡ 0
  div_ceil_none =
      elim (cases_lt 0 (div_ceil 0 k)) [
        | inl above ↦ absurd (omega (arith, mul-le-mul_right {m = 1} {n = div_ceil 0 k} k above, (div_ceil_times 0 k some).1))
        | inr none ↦ omega arith
      ]

  -- a block is a k-th of its segment, rounded up
  pub length-block : (segment : List ℕ) → length (block_of k i segment) ≡ div_ceil (length segment) k
  length-block segment =
      let up : ℕ = rounded_up (length segment) k in
      let long : length (padded_segment k segment) ≡ up =
      length-append segment (replicate (up - length segment) 0) ∙ omega (arith, length-replicate {A = ℕ} (up - length segment) 0, (div_ceil_times (length segment) k some).0) in
      length-map-range_with_len _ 0 (length (padded_segment k segment) / k)
      ∙ ap (λ (n : ℕ). n / k) long ∙ mul-div_cancel (div_ceil (length segment) k) some

  -- the blocks of so many segments
  abbrev blocks : ℕ → List ℕ → List (List ℕ)
  blocks n text = map (block_of k i) (pieces n (b * k) text)

  pub record AreCut (n : ℕ) (text : List ℕ) : Type 0 where
    pub size : length (joined (blocks n text)) ≡ div_ceil (length text) k
    pub again : pieces n b (joined (blocks n text)) ≡ blocks n text

  one_cut : (text : List ℕ) → length text ≤ b * k → AreCut 1 text
  one_cut text low =
      let front : List ℕ = take (b * k) text in
      let whole : front ≡ text = take_all (b * k) text low in
      let block : List ℕ = block_of k i front in
      let is : length block ≡ div_ceil (length text) k = length-block front ∙ ap (λ (t : List ℕ). div_ceil (length t) k) whole in
      let size : length block ≤ b = omega (arith, is, div_ceil_within (length text) low) in
      record {
        size = ap length (append-nil block) ∙ is;
        again = ap (λ (l : List ℕ). take b l ∷ []) (append-nil block) ∙ ap (λ (l : List ℕ). l ∷ []) (take_all b block size);
      }

  pub are_cut : (n : ℕ) (text : List ℕ) → length text ≤ n * (b * k) → n * (b * k) < length text + b * k → AreCut n text
  are_cut zero text none some' = record { size = let e : length text ≡ 0 = omega arith in sym (ap (λ (l : ℕ). div_ceil l k) e ∙ div_ceil_none); again = refl }
  are_cut (suc zero) text low high = one_cut text (omega arith)
  are_cut (suc (suc n)) text low high =
      let seg : ℕ = b * k in
      let here : suc (suc n) * seg ≡ seg + suc n * seg = omega arith in
      let more : suc n * seg ≡ seg + n * seg = omega arith in
      let front : List ℕ = take seg text in
      let rest : List ℕ = drop seg text in
      let full : length front ≡ seg = length-take-le seg text (omega arith) in
      let left : length rest + seg ≡ length text = omega (arith, length-drop seg text) in
      let cut = are_cut (suc n) rest (omega arith) (omega arith) in
      let block : List ℕ = block_of k i front in
      let whole : seg + 0 ≡ seg = omega arith in
      let size : length block ≡ b = length-block front ∙ ap (λ (l : ℕ). div_ceil l k) (full ∙ sym whole) ∙ div_ceil_more 0 ∙ ap (λ (d : ℕ). b + d) div_ceil_none ∙ omega arith in
      let sum : seg + length rest ≡ length text = omega arith in
      record {
        size = length-append block (joined (blocks (suc n) rest)) ∙ (λ j. size j + cut.size j) ∙ sym (div_ceil_more (length rest)) ∙ ap (λ (l : ℕ). div_ceil l k) sum;
        again =
            (λ j. take_at block (joined (blocks (suc n) rest)) b size j ∷ pieces (suc n) b (drop_at block (joined (blocks (suc n) rest)) b size j))
            ∙ ap (λ (l : List (List ℕ)). block ∷ l) cut.again;
      }
