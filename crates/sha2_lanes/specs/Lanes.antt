-- Eight lists side by side in vectors of eight words: lane j of vector i is what list j has at
-- position i. These are words of private clauses, but `text` stands in public ones too.
use Rattle.std.proofs.Common.{Bor}
use Rattle.std.specs.Prelude.{◌≡◌, ℕ, ◌*◌, ◌<◌, List, [], ◌∷◌, ◌++◌, All, length, map}
use Rattle.std.specs.Prelude.{slice_index, slice_index_or}
use Rattle.sha2.specs.Sha256.{IsRoundsAt, IsWindow, add32, round_constants, schedule, word_at}

-- so many vectors of eight words
pub record AreVectors (n : ℕ) (xs : List (List ℕ)) : Type 0 where
  pub count : length xs ≡ n
  pub each : All (λ (x : List ℕ). length x ≡ 8) xs

-- list j
abbrev pub lane : List (List ℕ) → ℕ → List ℕ
lane xs j = map (λ (x : List ℕ). slice_index x j) xs

-- in each lane j, after t rounds of its block from its hash value, the window is lane j of w and
-- the working variables are lane j of v
pub record AreRoundsAt (block hash : ℕ → List ℕ) (w v : List (List ℕ)) (t : ℕ) : Type 0 where
  pub words : AreVectors 16 w
  pub variables : AreVectors 8 v
  pub each : (j : ℕ) → j < 8 → IsRoundsAt (block j) (hash j) (lane w j) (lane v j) t

-- lane j of the sixteen vectors is the words of block j
pub record AreWords (block : ℕ → List ℕ) (w : List (List ℕ)) : Type 0 where
  pub vectors : AreVectors 16 w
  pub each : (j k : ℕ) → j < 8 → k < 16 → slice_index (lane w j) k ≡ word_at (block j) (4 * k)

-- the first n words are those of the block's schedule, each with its round's constant added
abbrev pub AreSums : List ℕ → List ℕ → ℕ → Type 0
AreSums block words n = (t : ℕ) → t < n
    → slice_index words t
    ≡ add32 (slice_index (schedule block 48) t) (slice_index round_constants t)

-- after t words of each block's schedule, the ring holds the last sixteen of list j in lane j, and
-- lane j of the sums begins with the sums of all
pub record AreSumsAt (block : ℕ → List ℕ) (ring sums : List (List ℕ)) (t : ℕ) : Type 0 where
  pub window : (j : ℕ) → j < 8 → IsWindow (lane ring j) (schedule (block j) 48) t
  pub begun : (j : ℕ) → j < 8 → AreSums (block j) (lane sums j) t

-- words of two vectors, by their positions in the one with the other behind it
abbrev pub interleaved : List ℕ → List ℕ → List ℕ → List ℕ
interleaved positions a b = map (λ k. slice_index (a ++ b) k) positions

-- the first four words of two vectors, in turn
abbrev pub low_words : List ℕ → List ℕ → List ℕ
low_words a b = interleaved (0 ∷ 8 ∷ 1 ∷ 9 ∷ 2 ∷ 10 ∷ 3 ∷ 11 ∷ []) a b

-- the last four
abbrev pub high_words : List ℕ → List ℕ → List ℕ
high_words a b = interleaved (4 ∷ 12 ∷ 5 ∷ 13 ∷ 6 ∷ 14 ∷ 7 ∷ 15 ∷ []) a b

-- eight vectors one after another, as 64 words in another order: the first 32 words stand on the
-- even positions, and the others between them
abbrev pub spread_words : List (List ℕ) → List (List ℕ)
spread_words r =
    low_words (slice_index_or r 0 []) (slice_index_or r 4 [])
    ∷ high_words (slice_index_or r 0 []) (slice_index_or r 4 [])
    ∷ low_words (slice_index_or r 1 []) (slice_index_or r 5 [])
    ∷ high_words (slice_index_or r 1 []) (slice_index_or r 5 [])
    ∷ low_words (slice_index_or r 2 []) (slice_index_or r 6 [])
    ∷ high_words (slice_index_or r 2 []) (slice_index_or r 6 [])
    ∷ low_words (slice_index_or r 3 []) (slice_index_or r 7 [])
    ∷ high_words (slice_index_or r 3 []) (slice_index_or r 7 []) ∷ []

-- stands for a slice that is missing
abbrev pub no_slice : Bor (List ℕ)
no_slice = record { ref_ptr = (0, 0); now = [] }

-- the bytes of slice j
abbrev pub text : List (Bor (List ℕ)) → ℕ → List ℕ
text slices j = (slice_index_or slices j no_slice).now

-- message j behind the prefix
abbrev pub message : List ℕ → List (Bor (List ℕ)) → ℕ → List ℕ
message prefix messages j = prefix ++ text messages j

-- the eight slices have this length
abbrev pub AreLong : ℕ → List (Bor (List ℕ)) → Type 0
AreLong len slices = (j : ℕ) → j < 8 → length (text slices j) ≡ len
