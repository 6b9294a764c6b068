use Rattle.std.proofs.Common.{◌≡◌, ℕ, ◌+◌, ◌*◌, ◌/◌, ◌<◌, ◌%◌, List, get_or, replicate, refl, ap, ◌∙◌, arith, w8}
use lib.Bits.{bit_and, and_le_r, and_mask}
use lib.Lanes.{zip2}
use Rattle.std.proofs.lemmas.Simd.{SwzOk-from_below, Each1-zip2, Each2-splat, Each1-all, length-zip2, length-swz_l, get_or-swz_l_below, get_or-zip2, get_or-replicate}
use Rattle.zfec_code.proofs.lanes.by_low_nibble.Goals as goal

abbrev low : List ℕ → List ℕ
low v = zip2 bit_and v (replicate 32 15)

pub swizzle : goal.swizzle
swizzle c =
    let v = c.args.bytes in
    let small = Each1-all (λ a. bit_and a 15 < 16) (λ a. omega (arith, and_le_r a 15)) v in
    SwzOk-from_below w8 16 2 32 0 (low v) refl (omega (arith, length-zip2 bit_and v (replicate 32 15) c.requires))
    (Each1-zip2 bit_and (λ j. j < 16) v (replicate 32 15) (Each2-splat (λ a b. bit_and a b < 16) v 32 15 small))

pub returns-clause-size : goal.returns-clause-size
returns-clause-size c = length-swz_l w8 16 c.args.table 0 (low c.args.bytes) ∙ length-zip2 bit_and c.args.bytes (replicate 32 15) c.requires ∙ c.requires

pub returns-clause-lanes : goal.returns-clause-lanes
returns-clause-lanes c i lt =
    let v = c.args.bytes in
    let table = c.args.table in
    let long = length-zip2 bit_and v (replicate 32 15) c.requires ∙ c.requires in
    let is : get_or (low v) i 0 ≡ get_or v i 0 % 16 = get_or-zip2 bit_and v (replicate 32 15) i 0 0 0 (omega arith) lt ∙ ap (bit_and (get_or v i 0)) (get_or-replicate 32 i 15 0 lt) ∙ and_mask (get_or v i 0) 4 in
    let here : 0 + i ≡ i = omega arith in
    get_or-swz_l_below w8 16 table 0 (low v) i (omega arith) (omega arith) ∙ (λ d. get_or table (16 * (here d / 16) + is d) 0)
