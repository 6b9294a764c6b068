use Rattle.std.proofs.Common.{◌≡◌, ◌*◌, ℕ, List, take, drop, length, arith}
use Rattle.sha2_lanes.proofs.Lanes.{vectors_set}
use Rattle.sha2_lanes.proofs.ScheduleLemmas.{first_sum, first_sums, sums_at}
use Rattle.sha2_lanes.proofs.schedule.make_schedules.Goals as goal

pub with_constant-requires-clause-long : goal.with_constant-requires-clause-long
with_constant-requires-clause-long c =
    let many : length c.first_words-w.result ≡ 16 = c.first_words-w.ensures.vectors.count in
    c.first_words-w.ensures.vectors.each c.first.t _ (omega arith)

pub first-init : goal.first-init
first-init c = record { vectors = c.requires.room; sums = λ j below t none. absurd (omega arith) }

pub first-preserved : goal.first-preserved
first-preserved c =
    let l = c.first in
    let block : ℕ → List ℕ = λ j. take 64 (drop (j * 64) c.args.group.now) in
    record {
      vectors = vectors_set 64 l.all l.t _ l.invariant.vectors c.with_constant.ensures.long;
      sums = λ j below. first_sum block c.first_words-w.result l.all _ l.t j c.first_words-w.ensures l.invariant.vectors (omega arith) below
          (l.invariant.sums j below) (c.with_constant.ensures.sums j below);
    }

pub words-init : goal.words-init
words-init c =
    let l = c.first in
    let block : ℕ → List ℕ = λ j. take 64 (drop (j * 64) c.args.group.now) in
    let done : l.t ≡ 16 = omega (arith, l.auto.t-end) in
    record {
      ring = c.first_words-w.ensures.vectors;
      vectors = l.invariant.vectors;
      sums = first_sums block c.first_words-w.result l.all c.first_words-w.ensures (rw done at l.invariant.sums);
    }

pub words-preserved : goal.words-preserved
words-preserved c =
    let block : ℕ → List ℕ = λ j. take 64 (drop (j * 64) c.args.group.now) in
    let s1 = c.make_four.ensures.sums block (sums_at block _ _ _ _ (omega arith) c.words.invariant.sums) in
    let s2 = c.make_four-in-words.ensures.sums block s1 in
    let s3 = c.make_four-in-words-2.ensures.sums block s2 in
    let s4 = c.make_four-in-words-3.ensures.sums block s3 in
    record {
      ring = c.make_four-in-words-3.ensures.ring;
      vectors = c.make_four-in-words-3.ensures.vectors;
      sums = sums_at block _ _ _ _ (omega arith) s4;
    }

pub returns-clause-lanes : goal.returns-clause-lanes
returns-clause-lanes c =
    let l = c.words in
    let done : 16 * l.turn ≡ 64 = omega (arith, l.auto.turn-end (omega arith)) in
    rw done at l.invariant.sums.begun
