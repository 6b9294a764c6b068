use Rattle.std.proofs.Common.{◌≡◌, ℕ, replicate, length, sym, ap, ◌∙◌, eq-eqb}
use Rattle.std.proofs.lemmas.Bool.{eqb-true}
use Rattle.std.proofs.lemmas.Nat.{pow_pos}
use Rattle.cap_text.specs.Base32.{bits}
use Rattle.cap_text.proofs.Bits.{length-bits, bits-zero, bits-injective}
use Rattle.cap_text.proofs.bit_queue.BitQueue.is_zero.Goals as goal

pub returns : goal.returns
returns c =
    let q = c.self.inside in
    let size : q.count ≡ length c.args.self.now = sym (length-bits q.count q.number) ∙ ap length c.self.view_is in (
      λ zero. let none : q.number ≡ 0 = eqb-true q.number 0 zero in
          sym c.self.view_is ∙ ap (bits q.count) none ∙ bits-zero q.count ∙ ap (λ (k : ℕ). replicate k 0) size,
      λ zeros. eq-eqb q.number 0 (bits-injective q.count q.number 0 c.self.invariant.1 (pow_pos q.count)
          (c.self.view_is ∙ zeros ∙ sym (bits-zero q.count ∙ ap (λ (k : ℕ). replicate k 0) size))),
    )
