use Rattle.std.proofs.Common.{◌≡◌, ℕ, ◌+◌, ◌-◌, ◌*◌, ◌/◌, ◌%◌, ◌^◌, ◌<◌, ◌≤◌, ◌++◌, bit_and, length, sym, ap, subst, ◌∙◌, arith}
use Rattle.std.proofs.Math.Nat.{pow-le-pow_right}
use Rattle.std.proofs.lemmas.Nat.{one_shl, and_mask, shr_below, shr_split, mod_below, pow_pos}
use Rattle.cap_text.specs.Base32.{bits}
use Rattle.cap_text.proofs.Bits.{length-bits, bits-joined}
use Rattle.cap_text.proofs.bit_queue.BitQueue.pop.Goals as goal

-- the lowest bits of a number
masked : (n k : ℕ) → k < 32 → bit_and n ((1 * 2 ^ k) % 4294967296 - 1) ≡ n % 2 ^ k
masked n k small = rw (one_shl k 32 small) (and_mask n k)

-- the highest bits of a number that has so many
high_bits : (n count width : ℕ) → width ≤ count → n < 2 ^ count → n / 2 ^ (count - width) < 2 ^ width
high_bits n count width enough fits =
    let all : count ≡ width + (count - width) = omega arith in
    shr_below n width (count - width) (subst (λ (k : ℕ). n < 2 ^ k) all fits)

widest : (width : ℕ) → width ≤ 8 → 2 ^ width ≤ 2 ^ 8
widest width narrow = pow-le-pow_right {n = 2} (omega arith) narrow

pub overflow_sub-self : goal.overflow_sub-self
overflow_sub-self c =
    let q = c.self.inside in
    let size : q.count ≡ length c.args.self.now = sym (length-bits q.count q.number) ∙ ap length c.self.view_is in
    omega (arith, c.requires.enough)

pub overflow_cast-result : goal.overflow_cast-result
overflow_cast-result c =
    let q = c.self.inside in
    let size : q.count ≡ length c.args.self.now = sym (length-bits q.count q.number) ∙ ap length c.self.view_is in
    let enough : c.args.width ≤ q.count = omega (arith, c.requires.enough) in
    omega (arith, high_bits q.number q.count c.args.width enough c.self.invariant.1, widest c.args.width c.requires.narrow)

pub returns-clause-front : goal.returns-clause-front
returns-clause-front c =
    let q = c.self.inside in
    let size : q.count ≡ length c.args.self.now = sym (length-bits q.count q.number) ∙ ap length c.self.view_is in
    let enough : c.args.width ≤ q.count = omega (arith, c.requires.enough) in
    let low : ℕ = q.count - c.args.width in
    sym c.self.view_is
    ∙ bits-joined low c.args.width (q.number / 2 ^ low) (q.number % 2 ^ low) q.count q.number (omega arith) (sym (shr_split q.number low))
    (mod_below q.number (2 ^ low) (pow_pos low))
    ∙ ap (λ (n : ℕ). bits c.args.width (q.number / 2 ^ low) ++ bits low n) (sym (masked q.number low (omega arith)))

pub returns-clause-small : goal.returns-clause-small
returns-clause-small c =
    let q = c.self.inside in
    let size : q.count ≡ length c.args.self.now = sym (length-bits q.count q.number) ∙ ap length c.self.view_is in
    high_bits q.number q.count c.args.width (omega (arith, c.requires.enough)) c.self.invariant.1
