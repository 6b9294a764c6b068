-- Blocks of a segment, and what they decode to.
use Rattle.std.proofs.Common.{◌≡◌, ℕ, ◌+◌, ◌-◌, ◌*◌, ◌<◌, ◌≤◌, List, [], ◌∷◌, ◌++◌, length, map, take, drop, min, get_or, Bor, ap, sym, subst, ◌∙◌, arith}
use Rattle.std.proofs.lemmas.List.{get_or-map, length-drop, length-map, length-take, map-append}
use Rattle.std.proofs.lemmas.Grind.{div_ceil_times, take_at_read}
use Rattle.std.proofs.Math.Nat.{add-mul, mul-le-mul_right}
use Rattle.zfec_code.specs.Shares.{HaveSize}
use Rattle.share_layout.specs.Geometry.{Geometry, IsGeometry, block_size, segment_count, share_data_size}
use Rattle.file_encoding.specs.Decoding.{AreBlocks}
use Rattle.share_layout.specs.Pieces.{block_length, block_at}

-- one more share's block is cut
pub cut_more : (g : Geometry) (number : ℕ) (shares done new : List (ℕ × Bor (List ℕ))) (index n : ℕ) (b : Bor (List ℕ)) (d : ℕ × Bor (List ℕ)) → index < length shares
    → new ≡ done ++ (n, b) ∷ [] → n ≡ (get_or shares index d).0 → b.now ≡ block_at g number (get_or shares index d).1.now
    → map (λ (s : ℕ × Bor (List ℕ)). s.0) done ≡ take index (map (λ (s : ℕ × Bor (List ℕ)). s.0) shares)
    → map (λ (s : ℕ × Bor (List ℕ)). s.1.now) done ≡ map (block_at g number) (take index (map (λ (s : ℕ × Bor (List ℕ)). s.1.now) shares))
    → (map (λ (s : ℕ × Bor (List ℕ)). s.0) new ≡ take (index + 1) (map (λ (s : ℕ × Bor (List ℕ)). s.0) shares))
    × (map (λ (s : ℕ × Bor (List ℕ)). s.1.now) new ≡ map (block_at g number) (take (index + 1) (map (λ (s : ℕ × Bor (List ℕ)). s.1.now) shares)))
cut_more g number shares done new index n b d inside pushed named cut numbered blocks =
    let first : ℕ × Bor (List ℕ) → ℕ = λ s. s.0 in
    let second : ℕ × Bor (List ℕ) → List ℕ = λ s. s.1.now in
    let all_first = length-map shares first in
    let all_second = length-map shares second in
    let this_first : n ≡ get_or (map first shares) index 0 = named ∙ sym (get_or-map first shares index d 0 inside) in
    let this_second : b.now ≡ block_at g number (get_or (map second shares) index []) = cut ∙ ap (block_at g number) (sym (get_or-map second shares index d [] inside)) in (
      ap (map first) pushed ∙ map-append first done ((n, b) ∷ []) ∙ (λ i. numbered i ++ this_first i ∷ [])
          ∙ sym (take_at_read (map first shares) index 0 (omega (arith, inside, all_first))).1,
      ap (map second) pushed ∙ map-append second done ((n, b) ∷ []) ∙ (λ i. blocks i ++ this_second i ∷ [])
          ∙ sym (map-append (block_at g number) (take index (map second shares)) (get_or (map second shares) index [] ∷ []))
          ∙ ap (map (block_at g number)) (sym (take_at_read (map second shares) index [] (omega (arith, inside, all_second))).1),
    )

-- the length of each block
pub length-block_at : (g : Geometry) (number : ℕ) (blocks : List ℕ) → length blocks ≡ share_data_size g → length (block_at g number blocks) ≡ block_length g number
length-block_at g number blocks size =
    length-take (block_size g) (drop (number * block_size g) blocks)
    ∙ ap (min (block_size g)) (length-drop (number * block_size g) blocks ∙ ap (λ n. n - number * block_size g) size)

pub have_size : (g : Geometry) (number : ℕ) (numbers : List ℕ) (blocks these : List (List ℕ)) (size : ℕ) → AreBlocks g numbers blocks
    → these ≡ map (block_at g number) blocks → size ≡ g.needed * block_length g number → HaveSize g.needed (block_length g number) these size
have_size g number numbers blocks these size are is whole =
    subst (λ (bs : List (List ℕ)). HaveSize g.needed (block_length g number) bs size) (sym is)
    record {
      count = length-map blocks (block_at g number) ∙ are.counted;
      alike = λ k d inside.
          let in_blocks : k < length blocks = (let all = length-map blocks (block_at g number) in omega (arith, inside, all)) in
          ap length (get_or-map (block_at g number) blocks k d d in_blocks) ∙ length-block_at g number (get_or blocks k d) (are.whole k d in_blocks);
      whole = whole;
    }

-- a segment that is there begins before the file's end
pub begins_inside : (g : Geometry) (number : ℕ) → IsGeometry g → number < segment_count g → number * g.segment_size < g.size
begins_inside g number valid there =
    let near : segment_count g * g.segment_size < g.size + g.segment_size = (div_ceil_times g.size g.segment_size valid.some_segment).1 in
    let up : (number + 1) * g.segment_size ≤ segment_count g * g.segment_size = mul-le-mul_right g.segment_size (omega (arith, there)) in
    let split : (number + 1) * g.segment_size ≡ number * g.segment_size + 1 * g.segment_size = add-mul number 1 g.segment_size in
    omega (arith, near, up, split)
