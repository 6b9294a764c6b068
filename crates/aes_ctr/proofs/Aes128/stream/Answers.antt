use Rattle.std.proofs.Common.{List, get_or, ap, ◌∙◌}
use Rattle.aes_ctr.proofs.StreamLemmas.{xored_from-zeros}
use Rattle.aes_ctr.proofs.Aes128.stream.Goals as goal

pub returns : goal.returns
returns c k below = ap (λ (b : List _). get_or b k 0) c.xor_piece.ensures ∙ xored_from-zeros c.args.self.now c.args.index k below
