use Rattle.zfec_code.specs.Tables.{AreDecodingRows}
use Rattle.zfec_code.proofs.decoding.decoding_rows.Given as goal

abbrev pub invariant-loop-primary : goal.invariant-loop-primary
invariant-loop-primary l = AreDecodingRows l.numbers l.primary l.rows.items
