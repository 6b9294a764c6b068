use Rattle.std.proofs.Common.{◌≡◌, Bool, true, false, length, refl, ap, ◌∙◌, arith, length-append}
use Rattle.std.specs.Bool.{OnTrue}
use Rattle.cap_text.specs.Base32.{bits}
use Rattle.cap_text.proofs.Bits.{length-bits}
use Rattle.cap_text.proofs.Reading.{read_letter, read_byte, no_other_letter, no_more_letters, spells_out, all_below, gives_bytes}
use Rattle.cap_text.proofs.base32.from_base32.Goals as goal
use Rattle.cap_text.proofs.base32.from_base32.Goals.{then-len-ge8+else-done-out, else-len-ge8}

pub returns-in_default-clause-only : goal.returns-in_default-clause-only
returns-in_default-clause-only c bytes whole same =
    absurd (no_other_letter c.args.text.now bytes c.loop-letter.letter-index (omega arith) same c.in_default.ensures.none)

pub returns-then-done-out-clause-only : goal.returns-then-done-out-clause-only
returns-then-done-out-clause-only c bytes whole same =
    let read = rw c.if-done-out.true at c.loop-letter.invariant in
    let pushed = ap length c.push.ensures ∙ length-append c.loop-letter.waiting (bits 5 c.in-Some.number) in
    absurd (no_more_letters c.args.text.now c.loop-letter.out bytes c.loop-letter.letter-index c.loop-letter.waiting read (omega arith)
    (omega (arith, pushed, length-bits 5 c.in-Some.number)) same (omega (arith, whole.len)))

pub loop-letter-preserved : goal.loop-letter-preserved
loop-letter-preserved c = elim c.if-len-ge8.branch [
  | then-len-ge8+else-done-out w ↦
      rw (w.out-is, w.done-is, w.waiting-is)
      (read_byte c.args.text.now c.loop-letter.out c.loop-letter.letter-index c.loop-letter.done c.in-Some.number _ w.pop.result c.loop-letter.waiting
      c.push.new.self w.pop.new.self c.loop-letter.invariant (omega arith) c.in-Some.ensures.number.0 c.in-Some.ensures.number.1 refl
      c.push.ensures w.pop.ensures.front w.pop.ensures.small (omega (arith, c.loop-letter.invariant.room)))
  | else-len-ge8 w ↦
      rw (w.out-is, w.done-is, w.waiting-is)
      (read_letter c.args.text.now c.loop-letter.out c.loop-letter.letter-index c.loop-letter.done c.in-Some.number _ c.loop-letter.waiting
      c.push.new.self c.loop-letter.invariant (omega arith) c.in-Some.ensures.number.0 c.in-Some.ensures.number.1 refl
      c.push.ensures (omega arith))
]

pub returns-then-done-out-2-clause-only : goal.returns-then-done-out-2-clause-only
returns-then-done-out-2-clause-only c bytes whole same =
    let end : c.loop-letter.letter-index ≡ length c.args.text.now = omega arith in
    let size : length c.loop-letter.out ≡ length c.args.out.now = c.loop-letter.auto.out in
    let given = gives_bytes c.args.text.now c.loop-letter.out bytes c.loop-letter.waiting c.loop-letter.done (rw end at c.loop-letter.invariant) same (rw size whole) in
    absurd (omega (arith, given.all))

pub returns-then-len-ge5-clause-only : goal.returns-then-len-ge5-clause-only
returns-then-len-ge5-clause-only c bytes whole same =
    let end : c.loop-letter.letter-index ≡ length c.args.text.now = omega arith in
    let size : length c.loop-letter.out ≡ length c.args.out.now = c.loop-letter.auto.out in
    let given = gives_bytes c.args.text.now c.loop-letter.out bytes c.loop-letter.waiting c.loop-letter.done (rw end at c.loop-letter.invariant) same (rw size whole) in
    absurd (omega (arith, given.few))

pub returns-clause-only : goal.returns-clause-only
returns-clause-only c bytes whole same =
    let end : c.loop-letter.letter-index ≡ length c.args.text.now = omega arith in
    let size : length c.loop-letter.out ≡ length c.args.out.now = c.loop-letter.auto.out in
    let given = gives_bytes c.args.text.now c.loop-letter.out bytes c.loop-letter.waiting c.loop-letter.done (rw end at c.loop-letter.invariant) same (rw size whole) in
    (c.is_zero.ensures.1 given.zeros, given.same)

-- what a yes says
when_zero : (b : Bool) (P : Type 0) → ((b ≡ true) → P) → OnTrue b P
when_zero true P then = then refl
when_zero false P then = tt

pub returns-clause-spells : goal.returns-clause-spells
returns-clause-spells c = when_zero c.is_zero.result _ (λ zero.
    let end : c.loop-letter.letter-index ≡ length c.args.text.now = omega arith in
    let all : c.loop-letter.done ≡ length c.loop-letter.out = omega (arith, c.loop-letter.invariant.room) in
    let read = rw end at c.loop-letter.invariant in (
      record { len = c.loop-letter.auto.out; below = all_below _ _ _ _ _ read all },
      spells_out c.args.text.now c.loop-letter.out c.loop-letter.waiting (rw all at read) (omega arith) (c.is_zero.ensures.0 zero),
    ))
