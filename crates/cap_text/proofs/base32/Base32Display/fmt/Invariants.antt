use Rattle.std.proofs.Common.{◌≡◌, ℕ, List, ◌++◌, length}
use Rattle.std.specs.Fmt.{HasWritten, IsPlainFormatter}
use Rattle.cap_text.specs.Base32.{base32}
use Rattle.cap_text.proofs.base32.Base32Display.fmt.Given as goal

abbrev pub invariant-loop-letter : goal.invariant-loop-letter
invariant-loop-letter g l =
    IsPlainFormatter l.initial.f → (done : List ℕ) × HasWritten g.W.Write.write_str_gives l.initial.f done l.f
    × (done ++ l.letters ≡ base32 l.fn.self.0.now)

abbrev pub decreases-loop-letter : goal.decreases-loop-letter
decreases-loop-letter g l = length l.letters
