use Rattle.std.proofs.Common.{◌≡◌, ℕ, ◌<◌, List, false, length, replicate, sym, subst, ◌∙◌, arith}
use Rattle.std.specs.Prelude.{slice_index}
use Rattle.std.proofs.lemmas.List.{length-map, length-replicate}
use Rattle.std.proofs.lemmas.List.Elements.{All-map, All-weaker}
use Rattle.std.proofs.lemmas.Option.{slice_get_within}
use Rattle.share_source.specs.Candidates.{AreFirst, picked_numbers}
use Rattle.share_source.proofs.Choice.{number_low}
use Rattle.share_source.proofs.reading.Reading.new.Goals as goal

pub returns-then-len-needed-clause-few : goal.returns-then-len-needed-clause-few
returns-then-len-needed-clause-few c = λ _.
    let shares : List ℕ = c.args.numbers.now in
    let positions : List ℕ = c.in_ok-positions.positions.items in
    let few : length positions < c.from-needed.result = omega (arith, c.if-len-needed.true, c.len.ensures, c.in_ok-positions.positions.ok.0) in
    let needed : c.from-needed.result ≡ c.args.geometry.needed = c.from-needed.ensures ∙ c.needed.ensures.value in
    record {
      numbers = picked_numbers shares positions;
      few = omega (arith, few, needed, length-map positions (slice_index shares));
      all = λ p left. c.in_ok-positions.ensures.all few p
          (omega (arith, slice_get_within (replicate (length shares) false) p false left, length-replicate (length shares) false));
    }

pub with_room-requires-clause-numbers : goal.with_room-requires-clause-numbers
with_room-requires-clause-numbers c =
    let shares : List ℕ = c.args.numbers.now in
    let positions : List ℕ = c.in_ok-positions.positions.items in
    let needed : c.from-needed.result ≡ c.args.geometry.needed = c.from-needed.ensures ∙ c.needed.ensures.value in
    record {
      enough = length-map positions (slice_index shares) ∙ omega (arith, c.in_ok-positions.ensures.count, c.if-len-needed.false, c.len.ensures, c.in_ok-positions.positions.ok.0, needed);
      below = All-map (λ n. n < c.args.geometry.total) (slice_index shares) positions
          (All-weaker (λ p. p < length shares) (λ p. slice_index shares p < c.args.geometry.total) (λ p low. number_low shares c.args.geometry.total p c.requires low) positions c.in_ok-positions.ensures.there);
      distinct = c.in_ok-positions.ensures.distinct;
    }

pub returns-clause-first : goal.returns-clause-first
returns-clause-first c = subst (AreFirst c.args.numbers.now) (sym c.in_ok-with_room.ensures.positions) c.in_ok-positions.ensures.first
