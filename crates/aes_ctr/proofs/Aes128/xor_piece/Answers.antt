use Rattle.std.proofs.Common.{ap, ◌∙◌}
use Rattle.aes_ctr.specs.Aes.{rounds}
use Rattle.aes_ctr.proofs.Aes128.xor_piece.Goals as goal

pub returns : goal.returns
returns c = c.add_stream.ensures c.args.index (λ j low. c.first_round.ensures.blocks j low ∙ ap (λ b. rounds c.args.self.now b 1) (c.counters.ensures.blocks j low))
