-- The schedules of eight blocks, side by side.
use Rattle.std.proofs.Common.{◌≡◌, ◌≢◌, ℕ, ◌+◌, ◌%◌, ◌<◌, ◌≤◌, List, [], ◌∷◌, length, get_or, set, take, drop, replicate, refl, sym, ap, subst, ◌∙◌, arith, inl, inr, Bor}
use Rattle.std.proofs.lemmas.Bool.{cases_lt}
use Rattle.std.proofs.lemmas.List.{get_or-set_other, get_or-set_same, length-map, take_all}
use Rattle.std.proofs.lemmas.Simd.{length-chunk}
use Rattle.lemmas.proofs.Eights.{by_eight}
use lib.Lanes.{zip2}
use Rattle.sha2.specs.Sha256.{IsWindow, add32, round_constants, schedule, window_word}
use Rattle.sha2.proofs.Schedule256.{IsWindow_first, IsWindow_next, slice_index-schedule_first, window_word_at}
use Rattle.sha2_lanes.specs.Lanes.{AreSums, AreSumsAt, AreVectors, AreWords, lane, text}
use Rattle.sha2_lanes.proofs.Lanes.{at_lane, lane_set, lane_word, named, vector}

-- eight slices of 64 bytes
pub room_of_eight : (a b c d e f g h : Bor (List ℕ))
    → length a.now ≡ 64 → length b.now ≡ 64 → length c.now ≡ 64 → length d.now ≡ 64
    → length e.now ≡ 64 → length f.now ≡ 64 → length g.now ≡ 64 → length h.now ≡ 64
    → (j : ℕ) → j < 8 → 64 ≤ length (text (a ∷ b ∷ c ∷ d ∷ e ∷ f ∷ g ∷ h ∷ []) j)
room_of_eight a b c d e f g h la lb lc ld le lf lg lh j below =
    by_eight (λ q. 64 ≤ length (text (a ∷ b ∷ c ∷ d ∷ e ∷ f ∷ g ∷ h ∷ []) q))
    (omega arith) (omega arith) (omega arith) (omega arith) (omega arith) (omega arith) (omega arith) (omega arith) j below

-- a part of 64 bytes is all of its first 64 bytes
pub part_of : (m : List ℕ) (at : ℕ) → at + 64 ≤ length m → take 64 (take 64 (drop at m)) ≡ take 64 (drop at m)
part_of m at room = take_all 64 (take 64 (drop at m)) (omega (arith, length-chunk at 64 m room))

-- the ring one word on
pub window_more : (b w next : List ℕ) (t place x : ℕ) → 16 ≤ t → t < 64 → place ≡ t % 16 → IsWindow w (schedule b 48) t
    → x ≡ window_word w t → next ≡ set w place x → (x ≡ get_or (schedule b 48) t 0) × IsWindow next (schedule b 48) (t + 1)
window_more b w next t place x low high ep win ex en =
    let at : x ≡ get_or (schedule b 48) t 0 = ex ∙ window_word_at b w t low high win in
    (at, rw (en, ep, at) (IsWindow_next b w t low high win))

-- a sum more
pub sums_more : (b s next : List ℕ) (t x : ℕ) → t < length s → AreSums b s t → next ≡ set s t x
    → x ≡ add32 (get_or (schedule b 48) t 0) (get_or round_constants t 0) → AreSums b next (t + 1)
sums_more b s next t x room held en ex k lt = elim (cases_lt k t) [
  | inl lower ↦
      let other : k ≢ t = omega arith in
      rw en (get_or-set_other s t k x 0 other ∙ held k lower)
  | inr upper ↦
      let here : k ≡ t = omega arith in
      rw (en, here) (get_or-set_same s t x 0 room ∙ ex)
]

-- the same in a lane of vectors
pub sums_set : (b : ℕ → List ℕ) (s : List (List ℕ)) (y : List ℕ) (t j : ℕ) → AreVectors 64 s → t < 64 → AreSums (b j) (lane s j) t
    → get_or y j 0 ≡ add32 (get_or (schedule (b j) 48) t 0) (get_or round_constants t 0) → AreSums (b j) (lane (set s t y) j) (t + 1)
sums_set b s y t j are below held ey =
    let many : length s ≡ 64 = are.count in
    let long : length (lane s j) ≡ 64 = length-map s (λ (v : List ℕ). get_or v j 0) ∙ many in
    sums_more (b j) (lane s j) (lane (set s t y) j) t (get_or y j 0) (omega arith) held (lane_set s t y j) ey

constant_named : (f : ℕ → ℕ) (k : ℕ) → zip2 add32 (vector f) (replicate 8 k) ≡ vector (λ j. add32 (f j) k)
constant_named f k = refl

-- a constant added in each lane
pub constant_vector : (x : List ℕ) (k : ℕ) → length x ≡ 8 → zip2 add32 x (replicate 8 k) ≡ vector (λ j. add32 (get_or x j 0) k)
constant_vector x k long =
    ap (λ (y : List ℕ). zip2 add32 y (replicate 8 k)) (named x long) ∙ constant_named (λ l. get_or x l 0) k

pub constant_added : (x : List ℕ) (k j : ℕ) → length x ≡ 8 → j < 8 → get_or (zip2 add32 x (replicate 8 k)) j 0 ≡ add32 (get_or x j 0) k
constant_added x k j long below =
    ap (λ (y : List ℕ). get_or y j 0) (constant_vector x k long) ∙ at_lane (λ l. add32 (get_or x l 0) k) j below

-- a ring and sums one word on, in each lane
pub more_at : (b : ℕ → List ℕ) (w w' s : List (List ℕ)) (x y : List ℕ) (t place n : ℕ) → 16 ≤ t → t < 64 → place ≡ t % 16 → n ≡ t + 1
    → AreVectors 64 s → AreSumsAt b w s t
    → ((j : ℕ) → j < 8 → get_or x j 0 ≡ window_word (lane w j) t)
    → ((j : ℕ) → j < 8 → lane w' j ≡ set (lane w j) place (get_or x j 0))
    → ((j : ℕ) → j < 8 → get_or y j 0 ≡ add32 (get_or x j 0) (get_or round_constants t 0))
    → AreSumsAt b w' (set s t y) n
more_at b w w' s x y t place n low high ep en are held ex ew ey = rw en (record {
  window = λ j below. (window_more (b j) (lane w j) (lane w' j) t place (get_or x j 0) low high ep (held.window j below) (ex j below) (ew j below)).1;
  begun = λ j below.
      let at = (window_more (b j) (lane w j) (lane w' j) t place (get_or x j 0) low high ep (held.window j below) (ex j below) (ew j below)).0 in
      sums_set b s y t j are high (held.begun j below) (ey j below ∙ ap (λ (k : ℕ). add32 k (get_or round_constants t 0)) at);
})

-- the same number of words, spelled another way
pub sums_at : (b : ℕ → List ℕ) (w s : List (List ℕ)) (n k : ℕ) → n ≡ k → AreSumsAt b w s n → AreSumsAt b w s k
sums_at b w s n k e held = subst (AreSumsAt b w s) e held

-- the first words of the blocks, as they stand in the ring
pub first_sum : (b : ℕ → List ℕ) (w s : List (List ℕ)) (y : List ℕ) (t j : ℕ) → AreWords b w → AreVectors 64 s → t < 16 → j < 8 → AreSums (b j) (lane s j) t
    → get_or y j 0 ≡ add32 (get_or (get_or w t []) j 0) (get_or round_constants t 0) → AreSums (b j) (lane (set s t y) j) (t + 1)
first_sum b w s y t j are vectors low below held ey =
    let many : length w ≡ 16 = are.vectors.count in
    sums_set b s y t j vectors (omega arith) held
    (ey ∙ ap (λ (k : ℕ). add32 k (get_or round_constants t 0))
    (sym (lane_word w j t (omega arith)) ∙ are.each j t below low ∙ sym (slice_index-schedule_first (b j) 48 t low)))

-- the ring that the first words fill
pub first_sums : (b : ℕ → List ℕ) (w s : List (List ℕ)) → AreWords b w → ((j : ℕ) → j < 8 → AreSums (b j) (lane s j) 16) → AreSumsAt b w s 16
first_sums b w s are held = record {
  window = λ j below. IsWindow_first (b j) (lane w j) (length-map w (λ (x : List ℕ). get_or x j 0) ∙ are.vectors.count) (λ k lt. are.each j k below lt);
  begun = held;
}
