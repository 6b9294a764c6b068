use Rattle.std.proofs.Common.{◌≡◌, ◌<◌, ℕ, List, [], get_or, refl, ◌∙◌}
use Rattle.std.specs.Int.{bit_at}
use Rattle.lemmas.proofs.Eights.{by_eight}
use Rattle.aes_ctr.proofs.TransposeLemmas.{Exchanged, are_slices, eight, slice_bit, of_single_bits, stage_1, stage_2, stage_4, transposed, two_blocks}
use Rattle.aes_ctr.proofs.slices.transposed.Goals as goal

pub returns-clause-slices : goal.returns-clause-slices
returns-clause-slices c =
    are_slices c.exchanged_4.result.0 c.exchanged_4-2.result.0 c.exchanged_4-3.result.0 c.exchanged_4-4.result.0
    c.exchanged_4.result.1 c.exchanged_4-2.result.1 c.exchanged_4-3.result.1 c.exchanged_4-4.result.1
    c.exchanged_4.ensures.long.0 c.exchanged_4-2.ensures.long.0 c.exchanged_4-3.ensures.long.0 c.exchanged_4-4.ensures.long.0
    c.exchanged_4.ensures.long.1 c.exchanged_4-2.ensures.long.1 c.exchanged_4-3.ensures.long.1 c.exchanged_4-4.ensures.long.1

pub returns-clause-blocks : goal.returns-clause-blocks
returns-clause-blocks c t below =
    let slices : List (List ℕ) = c.args.slices in
    let a0 : List ℕ = get_or slices 0 [] in
    let a1 : List ℕ = get_or slices 1 [] in
    let a2 : List ℕ = get_or slices 2 [] in
    let a3 : List ℕ = get_or slices 3 [] in
    let a4 : List ℕ = get_or slices 4 [] in
    let a5 : List ℕ = get_or slices 5 [] in
    let a6 : List ℕ = get_or slices 6 [] in
    let a7 : List ℕ = get_or slices 7 [] in
    let b0 : List ℕ = c.exchanged_1.result.0 in
    let b1 : List ℕ = c.exchanged_1.result.1 in
    let b2 : List ℕ = c.exchanged_1-2.result.0 in
    let b3 : List ℕ = c.exchanged_1-2.result.1 in
    let b4 : List ℕ = c.exchanged_1-3.result.0 in
    let b5 : List ℕ = c.exchanged_1-3.result.1 in
    let b6 : List ℕ = c.exchanged_1-4.result.0 in
    let b7 : List ℕ = c.exchanged_1-4.result.1 in
    let d0 : List ℕ = c.exchanged_2.result.0 in
    let d1 : List ℕ = c.exchanged_2-2.result.0 in
    let d2 : List ℕ = c.exchanged_2.result.1 in
    let d3 : List ℕ = c.exchanged_2-2.result.1 in
    let d4 : List ℕ = c.exchanged_2-3.result.0 in
    let d5 : List ℕ = c.exchanged_2-4.result.0 in
    let d6 : List ℕ = c.exchanged_2-3.result.1 in
    let d7 : List ℕ = c.exchanged_2-4.result.1 in
    let e0 : List ℕ = c.exchanged_4.result.0 in
    let e1 : List ℕ = c.exchanged_4-2.result.0 in
    let e2 : List ℕ = c.exchanged_4-3.result.0 in
    let e3 : List ℕ = c.exchanged_4-4.result.0 in
    let e4 : List ℕ = c.exchanged_4.result.1 in
    let e5 : List ℕ = c.exchanged_4-2.result.1 in
    let e6 : List ℕ = c.exchanged_4-3.result.1 in
    let e7 : List ℕ = c.exchanged_4-4.result.1 in
    let new : List (List ℕ) = eight e0 e1 e2 e3 e4 e5 e6 e7 in
    let bits : (q i : ℕ) → q < 32 → i < 8 → bit_at (get_or (get_or new t []) q 0) i ≡ slice_bit slices q i t = λ q i within low.
    let x10 : Exchanged 1 q a0 a1 b0 b1 = of_single_bits q a0 a1 b0 b1 (λ b. c.exchanged_1.ensures.first q b within) (λ b. c.exchanged_1.ensures.second q b within) in
    let x11 : Exchanged 1 q a2 a3 b2 b3 = of_single_bits q a2 a3 b2 b3 (λ b. c.exchanged_1-2.ensures.first q b within) (λ b. c.exchanged_1-2.ensures.second q b within) in
    let x12 : Exchanged 1 q a4 a5 b4 b5 = of_single_bits q a4 a5 b4 b5 (λ b. c.exchanged_1-3.ensures.first q b within) (λ b. c.exchanged_1-3.ensures.second q b within) in
    let x13 : Exchanged 1 q a6 a7 b6 b7 = of_single_bits q a6 a7 b6 b7 (λ b. c.exchanged_1-4.ensures.first q b within) (λ b. c.exchanged_1-4.ensures.second q b within) in
    let x20 : Exchanged 2 q b0 b2 d0 d2 = record { firsts_are = λ b. c.exchanged_2.ensures.first q b within; seconds_are = λ b. c.exchanged_2.ensures.second q b within } in
    let x21 : Exchanged 2 q b1 b3 d1 d3 = record { firsts_are = λ b. c.exchanged_2-2.ensures.first q b within; seconds_are = λ b. c.exchanged_2-2.ensures.second q b within } in
    let x22 : Exchanged 2 q b4 b6 d4 d6 = record { firsts_are = λ b. c.exchanged_2-3.ensures.first q b within; seconds_are = λ b. c.exchanged_2-3.ensures.second q b within } in
    let x23 : Exchanged 2 q b5 b7 d5 d7 = record { firsts_are = λ b. c.exchanged_2-4.ensures.first q b within; seconds_are = λ b. c.exchanged_2-4.ensures.second q b within } in
    let x40 : Exchanged 4 q d0 d4 e0 e4 = record { firsts_are = λ b. c.exchanged_4.ensures.first q b within; seconds_are = λ b. c.exchanged_4.ensures.second q b within } in
    let x41 : Exchanged 4 q d1 d5 e1 e5 = record { firsts_are = λ b. c.exchanged_4-2.ensures.first q b within; seconds_are = λ b. c.exchanged_4-2.ensures.second q b within } in
    let x42 : Exchanged 4 q d2 d6 e2 e6 = record { firsts_are = λ b. c.exchanged_4-3.ensures.first q b within; seconds_are = λ b. c.exchanged_4-3.ensures.second q b within } in
    let x43 : Exchanged 4 q d3 d7 e3 e7 = record { firsts_are = λ b. c.exchanged_4-4.ensures.first q b within; seconds_are = λ b. c.exchanged_4-4.ensures.second q b within } in
    transposed q (eight a0 a1 a2 a3 a4 a5 a6 a7) (eight b0 b1 b2 b3 b4 b5 b6 b7) (eight d0 d1 d2 d3 d4 d5 d6 d7) new
    (stage_1 q a0 a1 a2 a3 a4 a5 a6 a7 b0 b1 b2 b3 b4 b5 b6 b7 x10 x11 x12 x13)
    (stage_2 q b0 b1 b2 b3 b4 b5 b6 b7 d0 d1 d2 d3 d4 d5 d6 d7 x20 x21 x22 x23)
    (stage_4 q d0 d1 d2 d3 d4 d5 d6 d7 e0 e1 e2 e3 e4 e5 e6 e7 x40 x41 x42 x43)
    t i below low
    ∙ by_eight (λ i. slice_bit (eight a0 a1 a2 a3 a4 a5 a6 a7) q i t ≡ slice_bit slices q i t) refl refl refl refl refl refl refl refl i low
    in
    let bytes : (q : ℕ) → q < 32 → get_or (get_or new t []) q 0 < 256 = λ q within.
    by_eight (λ t. get_or (get_or new t []) q 0 < 256)
    (c.exchanged_4.ensures.bytes q within).0
    (c.exchanged_4-2.ensures.bytes q within).0
    (c.exchanged_4-3.ensures.bytes q within).0
    (c.exchanged_4-4.ensures.bytes q within).0
    (c.exchanged_4.ensures.bytes q within).1
    (c.exchanged_4-2.ensures.bytes q within).1
    (c.exchanged_4-3.ensures.bytes q within).1
    (c.exchanged_4-4.ensures.bytes q within).1
    t below
    in
    two_blocks slices (get_or new t []) t c.requires.eight ((returns-clause-slices c).each t [] below) bytes bits
