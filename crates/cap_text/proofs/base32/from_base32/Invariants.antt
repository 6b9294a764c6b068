use Rattle.cap_text.proofs.Reading.{ReadSoFar}
use Rattle.cap_text.proofs.base32.from_base32.Given as goal

abbrev pub invariant-loop-letter : goal.invariant-loop-letter
invariant-loop-letter l = ReadSoFar l.text l.out l.letter-index l.done l.waiting
