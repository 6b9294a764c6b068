use Rattle.std.proofs.Common.{◌≡◌, ℕ, ◌+◌, ◌*◌, ◌<◌, ◌/◌, ◌^◌, List, get_or, replicate, refl, ap, ◌∙◌, arith, w8}
use lib.Lanes.{zip2, Each1}
use Rattle.std.proofs.lemmas.Nat.{shr_below}
use Rattle.std.proofs.lemmas.Simd.{SwzOk-from_below, Each1-zip2, Each2-splat, length-zip2, length-swz_l, get_or-swz_l_below, get_or-zip2, get_or-replicate, Each1-get_or, Each1-from_get_or}
use Rattle.zfec_code.proofs.lanes.by_high_nibble.Goals as goal

abbrev high : List ℕ → List ℕ
high v = zip2 (λ a b. a / 2 ^ b) v (replicate 32 4)

small : (v : List ℕ) → Each1 (λ x. x < 256) v → Each1 (λ x. x / 2 ^ 4 < 16) v
small v h = Each1-from_get_or (λ x. x / 2 ^ 4 < 16) v 0 (λ i lt. shr_below (get_or v i 0) 4 4 (Each1-get_or (λ x. x < 256) v i 0 lt h))

pub swizzle : goal.swizzle
swizzle c =
    let v = c.args.bytes in
    SwzOk-from_below w8 16 2 32 0 (high v) refl (omega (arith, length-zip2 (λ a b. a / 2 ^ b) v (replicate 32 4) c.requires.long))
    (Each1-zip2 (λ a b. a / 2 ^ b) (λ j. j < 16) v (replicate 32 4) (Each2-splat (λ a b. a / 2 ^ b < 16) v 32 4 (small v c.requires.fit)))

pub returns-clause-size : goal.returns-clause-size
returns-clause-size c = length-swz_l w8 16 c.args.table 0 (high c.args.bytes) ∙ length-zip2 (λ a b. a / 2 ^ b) c.args.bytes (replicate 32 4) c.requires.long ∙ c.requires.long

pub returns-clause-lanes : goal.returns-clause-lanes
returns-clause-lanes c i lt =
    let v = c.args.bytes in
    let table = c.args.table in
    let long = length-zip2 (λ a b. a / 2 ^ b) v (replicate 32 4) c.requires.long ∙ c.requires.long in
    let within : get_or v i 0 / 2 ^ 4 < 16 = Each1-get_or (λ x. x / 2 ^ 4 < 16) v i 0 (omega arith) (small v c.requires.fit) in
    let is : get_or (high v) i 0 ≡ get_or v i 0 / 16 = get_or-zip2 (λ a b. a / 2 ^ b) v (replicate 32 4) i 0 0 0 (omega arith) lt ∙ ap (λ n. get_or v i 0 / 2 ^ n) (get_or-replicate 32 i 4 0 lt) in
    let here : 0 + i ≡ i = omega arith in
    get_or-swz_l_below w8 16 table 0 (high v) i (omega arith) (omega arith) ∙ (λ d. get_or table (16 * (here d / 16) + is d) 0)
