use Rattle.std.proofs.lemmas.Bool.{false≢true}
use Rattle.cap_text.proofs.LitLemmas.{room_for_file}
use Rattle.cap_text.proofs.text.read_lit.Goals as goal

pub returns-then-not-from_base32 : goal.returns-then-not-from_base32
returns-then-not-from_base32 c = (
  c.if-letters-gt-MAX_LIT_LETTERS.false,
  λ count has.
      let room = room_for_file c.args.letters.now has.0 has.2 c.if-letters-gt-MAX_LIT_LETTERS.false in
      false≢true (c.if-not-from_base32.ensures.only has.0 (record { len = room; below = has.1.below }) has.2).0,
)
