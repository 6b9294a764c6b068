use Rattle.std.proofs.Common.{◌≡◌, length, map, refl, ap, ◌∙◌, arith}
use Rattle.std.proofs.lemmas.List.{length-map}
use Rattle.file_encoding.specs.LowestShares.{TakesAt}
use Rattle.file_encoding.specs.Reading.{TakenShare}
use Rattle.file_encoding.proofs.GoodShares.{not_inconsistent, not_lacking, only_memory}
use Rattle.file_encoding.proofs.LowestShares.{enough_positions}
use Rattle.file_encoding.proofs.Reread.{inside_shares}
use Rattle.file_encoding.proofs.decoded.decode_shares.Goals as goal

takes_at : (c : goal.After-deref) → TakesAt c.args.cap.now (map (λ s. s.0) c.args.shares.now) (map (λ s. s.1.now) c.args.shares.now) c.deref.result.now
takes_at c =
    let are = c.in_ok-positions.ensures in
    let count : length c.in_ok-positions.positions.items ≡ length are.taken = ap length are.at ∙ length-map are.taken (λ (t : TakenShare). t.position) in
    record {
      taken = are.taken;
      takes = record {
        lowest = are.lowest;
        enough = omega (arith, count, are.lowest.few, c.if-len-from.false, c.from.ensures, c.needed.ensures.value, c.len.ensures, c.in_ok-positions.positions.ok);
      };
      at = c.deref.ensures.value ∙ are.at;
    }

pub decode_taken-requires-clause-takes : goal.decode_taken-requires-clause-takes
decode_taken-requires-clause-takes c = takes_at c

pub decode_taken-requires-clause-some : goal.decode_taken-requires-clause-some
decode_taken-requires-clause-some c =
    let all : length c.deref.result.now ≡ length c.in_ok-positions.positions.items = ap length c.deref.ensures.value in
    omega (arith, all, c.needed.ensures.cap.parameters.some, c.if-len-from.false, c.from.ensures, c.needed.ensures.value, c.len.ensures, c.in_ok-positions.positions.ok)

pub decode_taken-requires-clause-inside : goal.decode_taken-requires-clause-inside
decode_taken-requires-clause-inside c = λ k d inside.
    let takes = takes_at c in
    inside_shares c.args.cap.now c.args.shares.now takes.taken takes.takes c.deref.result.now takes.at k d inside

pub returns-then-len-from-clause-not_enough : goal.returns-then-len-from-clause-not_enough
returns-then-len-from-clause-not_enough c = λ _.
    let are = c.in_ok-positions.ensures in
    let count : length c.in_ok-positions.positions.items ≡ length are.taken = ap length are.at ∙ length-map are.taken (λ (t : TakenShare). t.position) in
    record {
      taken = are.taken;
      lowest = are.lowest;
      few = omega (arith, count, c.if-len-from.true, c.from.ensures, c.needed.ensures.value, c.len.ensures, c.in_ok-positions.positions.ok);
    }

pub returns-clause-lacking : goal.returns-clause-lacking
returns-clause-lacking c = λ lacks.
    absurd (enough_positions c.args.cap.now (map (λ s. s.0) c.args.shares.now) (map (λ s. s.1.now) c.args.shares.now) c.in_ok-positions.positions.items c.in_ok-positions.ensures
    (omega (arith, c.if-len-from.false, c.from.ensures, c.needed.ensures.value, c.len.ensures, c.in_ok-positions.positions.ok)) lacks)

pub returns-then-len-from-clause-good : goal.returns-then-len-from-clause-good
returns-then-len-from-clause-good c = λ file secret p good.
    absurd (not_lacking file secret p c.args.cap.now (map (λ s. s.0) c.args.shares.now) (map (λ s. s.1.now) c.args.shares.now) good
    (returns-then-len-from-clause-not_enough c refl))

pub returns-clause-good : goal.returns-clause-good
returns-clause-good c = λ file secret p good.
    only_memory c.decode_taken.result c.decode_taken.ensures.no_other
    (λ wrong. not_inconsistent file secret p c.args.cap.now (map (λ s. s.0) c.args.shares.now) (map (λ s. s.1.now) c.args.shares.now) good (c.decode_taken.ensures.inconsistent wrong))
