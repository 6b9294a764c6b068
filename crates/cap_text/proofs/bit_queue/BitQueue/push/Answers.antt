use Rattle.std.proofs.Common.{◌≡◌, ℕ, ◌+◌, ◌*◌, ◌^◌, ◌<◌, ◌≤◌, ◌%◌, ◌++◌, bit_or, length, refl, sym, ap, ◌∙◌, arith}
use Rattle.std.proofs.lemmas.Nat.{shl_whole, or_shifted, pow-add, mul-add-lt}
use Rattle.cap_text.specs.Base32.{bits}
use Rattle.cap_text.proofs.Bits.{length-bits, bits-joined}
use Rattle.cap_text.proofs.bit_queue.BitQueue.push.Goals as goal

-- what the two numbers make
joined : (m n high low : ℕ) → m < 2 ^ high → n < 2 ^ low → high + low ≤ 32 → bit_or ((m * 2 ^ low) % 4294967296) n ≡ m * 2 ^ low + n
joined m n high low pm pn room = rw (shl_whole m high low 32 pm room) (or_shifted m low n pn)

pub invariant_of-self : goal.invariant_of-self
invariant_of-self c =
    let q = c.self.inside in
    let size : q.count ≡ length c.args.self.now = sym (length-bits q.count q.number) ∙ ap length c.self.view_is in
    let number : c.from.result ≡ c.args.number = c.from.ensures in
    let small : c.args.number < 2 ^ c.args.width = c.requires.narrow in
    let room : q.count + c.args.width ≤ 16 = omega (arith, c.requires.room) in
    let whole = joined q.number c.args.number q.count c.args.width c.self.invariant.1 small (omega arith) in
    let turned : q.count + c.args.width ≡ c.args.width + q.count = omega arith in
    (room, rw (number, whole, turned, pow-add 2 c.args.width q.count) (mul-add-lt q.number (2 ^ c.args.width) c.args.number (2 ^ q.count) c.self.invariant.1 small))

pub returns : goal.returns
returns c =
    let q = c.self.inside in
    let size : q.count ≡ length c.args.self.now = sym (length-bits q.count q.number) ∙ ap length c.self.view_is in
    let number : c.from.result ≡ c.args.number = c.from.ensures in
    let small : c.args.number < 2 ^ c.args.width = c.requires.narrow in
    let room : q.count + c.args.width ≤ 32 = omega (arith, c.requires.room) in
    let whole = joined q.number c.args.number q.count c.args.width c.self.invariant.1 small room in
    rw (number, whole) (bits-joined c.args.width q.count q.number c.args.number (q.count + c.args.width) _ refl refl small
    ∙ ap (λ (front : _). front ++ bits c.args.width c.args.number) c.self.view_is)
