use Rattle.std.proofs.Common.{◌≢◌, ◌<◌, ℕ, List, [], length, inl, inr, sym, subst, ◌∙◌, arith}
use Rattle.std.proofs.lemmas.List.{length-set}
use Rattle.std.specs.Prelude.{slice_set}
use Rattle.std.proofs.lemmas.Bool.{cases_eq}
use Rattle.tagged_hash.specs.TaggedHasher.{HoldsIn}
use Rattle.tagged_hash.specs.declared.hasher.TaggedHasher.{TaggedHasher}
use Rattle.tagged_hash.specs.declared.tag.Tag.TheVariants.{Block}
use Rattle.tagged_hash.proofs.Lanes.{placed, stays}
use Rattle.tagged_hash.proofs.wholes.begin_blocks.Goals as goal

pub loop-lane-preserved : goal.loop-lane-preserved
loop-lane-preserved c =
    let lane : ℕ = c.loop-lane.lane in
    let now : List TaggedHasher = c.loop-lane.hashers in
    let low : lane < length now = omega (arith, c.loop-lane.auto.lane-end, c.loop-lane-test.true, c.loop-lane.invariant.long) in
    record {
      long = length-set now lane c.new.result ∙ c.loop-lane.invariant.long;
      shares = λ j tag given below held.
          let apart : j ≢ lane = omega (arith, below, c.loop-lane.auto.lane) in
          stays now lane j c.new.result tag given apart (c.loop-lane.invariant.shares j tag given below held);
      blocks = λ j high below. elim (cases_eq j lane) [
        | inl e ↦ subst (λ n. HoldsIn (slice_set now lane c.new.result) n Block []) (sym e) (placed now lane c.new.result Block [] low c.new.ensures)
        | inr apart ↦ stays now lane j c.new.result Block [] apart (c.loop-lane.invariant.blocks j high (omega (arith, below, apart)))
      ];
    }
