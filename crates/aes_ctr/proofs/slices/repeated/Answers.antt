use Rattle.std.proofs.Common.{◌≡◌, ◌+◌, ◌*◌, ◌/◌, ◌%◌, ◌^◌, ◌<◌, ◌==◌, if◌then◌else◌, ℕ, List, [], get_or, bit_and, sym, ap, ◌∙◌, arith}
use Rattle.std.specs.Int.{bit_at}
use Rattle.std.proofs.lemmas.Simd.{Each1-get_or}
use Rattle.lemmas.proofs.Eights.{by_eight}
use Rattle.aes_ctr.specs.Slices.{bit_in}
use Rattle.aes_ctr.proofs.Bytes.{is_block}
use Rattle.aes_ctr.proofs.SpreadLemmas.{in_both, spread_bit}
use Rattle.aes_ctr.proofs.TransposeLemmas.{are_slices, eight}
use Rattle.aes_ctr.proofs.slices.repeated.Goals as goal

pub returns-clause-slices : goal.returns-clause-slices
returns-clause-slices c =
    are_slices c.spread.result c.spread-2.result c.spread-3.result c.spread-4.result c.spread-5.result c.spread-6.result c.spread-7.result c.spread-8.result
    c.spread.ensures.long c.spread-2.ensures.long c.spread-3.ensures.long c.spread-4.ensures.long
    c.spread-5.ensures.long c.spread-6.ensures.long c.spread-7.ensures.long c.spread-8.ensures.long

pub returns-clause-blocks : goal.returns-clause-blocks
returns-clause-blocks c j below =
    let block : List ℕ = c.args.block in
    let slices : List (List ℕ) =
    eight c.spread.result c.spread-2.result c.spread-3.result c.spread-4.result c.spread-5.result c.spread-6.result c.spread-7.result c.spread-8.result
    in
    let bits : (p i : ℕ) → p < 16 → i < 8 → bit_at (get_or block p 0) i ≡ bit_in (get_or slices i []) j p = λ p i in_block low.
    let q : ℕ = 16 * (j % 2) + p in
    let within : q < 32 = omega arith in
    let x : ℕ = get_or block p 0 in
    let byte : get_or c.twice-both.result q 0 ≡ x = ap (λ (v : List ℕ). get_or v q 0) c.twice-both.ensures ∙ in_both block (j % 2) p c.requires.long (omega arith) in_block in
    let spread : (i : ℕ) (slice : List ℕ) → get_or slice q 0 ≡ (if bit_and (get_or c.twice-both.result q 0) (2 ^ i) == 2 ^ i then 255 else 0) → bit_at x i ≡ bit_in slice j p = λ i slice is.
    spread_bit x i (j / 2) (omega arith)
    ∙ ap (λ (y : ℕ). bit_at y (j / 2)) (ap (λ (y : ℕ). if bit_and y (2 ^ i) == 2 ^ i then 255 else 0) (sym byte) ∙ sym is)
    in
    by_eight (λ i. bit_at x i ≡ bit_in (get_or slices i []) j p)
    (spread 0 c.spread.result (c.spread.ensures.lanes q within))
    (spread 1 c.spread-2.result (c.spread-2.ensures.lanes q within))
    (spread 2 c.spread-3.result (c.spread-3.ensures.lanes q within))
    (spread 3 c.spread-4.result (c.spread-4.ensures.lanes q within))
    (spread 4 c.spread-5.result (c.spread-5.ensures.lanes q within))
    (spread 5 c.spread-6.result (c.spread-6.ensures.lanes q within))
    (spread 6 c.spread-7.result (c.spread-7.ensures.lanes q within))
    (spread 7 c.spread-8.result (c.spread-8.ensures.lanes q within))
    i low
    in
    sym (is_block slices block j (returns-clause-slices c).eight c.requires.long
    (λ p in_block. Each1-get_or (λ b. b < 256) block p 0 (omega (arith, c.requires.long)) c.requires.bytes) bits)
