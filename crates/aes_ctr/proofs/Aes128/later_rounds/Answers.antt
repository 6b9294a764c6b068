use Rattle.std.proofs.Common.{◌≡◌, List, ◌-◌, ◌+◌, suc, ap, ap₂, ◌∙◌, arith}
use Rattle.aes_ctr.specs.Aes.{encrypted, last_round, round, round_key, rounds}
use Rattle.aes_ctr.proofs.Aes128.later_rounds.Goals as goal

pub rounds-preserved : goal.rounds-preserved
unfolding rounds
rounds-preserved c = record {
  slices = c.round-next.ensures.slices;
  blocks = λ j block within begun.
      let r = c.rounds.r in
      let before : r - 1 + 1 ≡ r = omega arith in
      let more : r + 1 - 1 ≡ suc (r - 1) = omega arith in
      let key = c.slices.ensures.blocks j within ∙ c.self.invariant.each r _ (omega arith) ∙ ap (λ (k : List _). round_key k r) c.self.view_is in
      rw (more, before) (c.round-next.ensures.blocks j within ∙ ap₂ round key (c.rounds.invariant.blocks j block within begun));
}

pub returns-clause-blocks : goal.returns-clause-blocks
unfolding encrypted
returns-clause-blocks c j block within begun =
    let done : c.rounds.r - 1 ≡ 9 = omega arith in
    let key = c.slices-2.ensures.blocks j within ∙ c.self.invariant.each 10 _ (omega arith) ∙ ap (λ (k : List _). round_key k 10) c.self.view_is in
    c.last_round.ensures.blocks j within ∙ ap₂ last_round key (rw done at c.rounds.invariant.blocks j block within begun)
