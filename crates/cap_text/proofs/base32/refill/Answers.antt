use Rattle.std.proofs.Common.{◌≡◌, ℕ, ◌+◌, ◌-◌, ◌<◌, List, [], ◌++◌, length, ap, arith, append-nil, length-append}
use Rattle.std.proofs.lemmas.List.{nil_from_length}
use Rattle.std.specs.List.{flat_map}
use Rattle.cap_text.specs.Base32.{bits, groups}
use Rattle.cap_text.proofs.Bits.{length-bits}
use Rattle.cap_text.proofs.Groups.{groups-filled}
use Rattle.cap_text.proofs.base32.refill.Goals as goal

-- the length after so many bits more
more_bits : (old new : List ℕ) (count n : ℕ) → new ≡ old ++ bits count n → length new ≡ length old + count
more_bits old new count n pushed = omega (arith, ap length pushed, length-append old (bits count n), length-bits count n)

-- the last group is filled
filled : (old new rest : List ℕ) (len : ℕ) → rest ≡ [] → len ≡ length old → 0 < len → len < 5 → new ≡ old ++ bits (5 - len) 0
    → groups (new ++ flat_map (bits 8) rest) ≡ groups (old ++ flat_map (bits 8) rest)
filled old new rest len none size some few pushed =
    rw (none, append-nil new, append-nil old, pushed) (groups-filled old (5 - len) (omega arith) (omega arith) (omega arith))

pub returns-then-len-gt0-clause-same : goal.returns-then-len-gt0-clause-same
returns-then-len-gt0-clause-same c =
    let some : 0 < c.len-then-len-gt0.result = omega (arith, c.len-then-len-gt0.ensures, c.len-in_default.ensures) in
    let few : c.len-then-len-gt0.result < 5 = omega (arith, c.len-then-len-gt0.ensures, c.len.ensures) in
    filled c.args.waiting.now c.push.new.self c.args.bytes.now c.len-then-len-gt0.result (nil_from_length _ c.in_default.ensures.cases)
    c.len-then-len-gt0.ensures some few c.push.ensures

pub returns-then-len-gt0-clause-room : goal.returns-then-len-gt0-clause-room
returns-then-len-gt0-clause-room c = omega (arith, more_bits _ _ _ _ c.push.ensures)

pub returns-then-len-gt0-clause-enough : goal.returns-then-len-gt0-clause-enough
returns-then-len-gt0-clause-enough c = λ _. omega (arith, more_bits _ _ _ _ c.push.ensures)

pub returns-clause-room : goal.returns-clause-room
returns-clause-room c = omega (arith, more_bits _ _ _ _ c.push-2.ensures)

pub returns-clause-enough : goal.returns-clause-enough
returns-clause-enough c = λ _. omega (arith, more_bits _ _ _ _ c.push-2.ensures)

pub returns-clause-end : goal.returns-clause-end
returns-clause-end c = λ none. absurd (omega (arith, more_bits _ _ _ _ c.push-2.ensures))
