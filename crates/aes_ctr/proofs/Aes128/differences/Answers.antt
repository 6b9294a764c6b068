use Rattle.std.proofs.Common.{◌≢◌, ℕ, List, ◌<◌, length, ap, ap₂, ◌∙◌, arith, below_more, zero-add}
use Rattle.std.proofs.lemmas.List.{get_or-set_other, get_or-set_same, length-set}
use Rattle.std.specs.Int.{w128, to_be_bytes}
use Rattle.aes_ctr.specs.Aes.{rounds, xor_bytes}
use Rattle.aes_ctr.specs.Differences.{IsDifference}
use Rattle.aes_ctr.proofs.Aes128.differences.Goals as goal

pub loop-g-preserved : goal.loop-g-preserved
loop-g-preserved c =
    let l = c.loop-g in
    let round_of : List ℕ → List ℕ = λ b. rounds c.args.self.now b 1 in
    let added : IsDifference c.args.self.now l.g c.add.result = record {
      are = c.add.ensures.slices;
      blocks = λ j low.
          c.add.ensures.blocks j
          ∙ ap₂ xor_bytes
          (c.first_round.ensures.blocks j low ∙ ap round_of (c.counters-in-loop-g.ensures.blocks j low))
          (c.first_round-first.ensures.blocks j low ∙ ap round_of (c.counters.ensures.blocks j low ∙ ap (to_be_bytes w128) (zero-add j)));
    } in record {
      full = length-set l.table l.g c.add.result ∙ l.invariant.full;
      made = below_more _ _
          (λ k before. let other : k ≢ l.g = omega arith in rw get_or-set_other (l.invariant.made k before))
          (let within : l.g < length l.table = omega (arith, l.invariant.full) in rw get_or-set_same added);
    }
