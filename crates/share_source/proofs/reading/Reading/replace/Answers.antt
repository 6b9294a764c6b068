use Rattle.std.proofs.Common.{◌≡◌, ℕ, suc, ◌++◌, List, drop, false, length, take, ap, arith}
use Rattle.std.specs.Prelude.{slice_index}
use Rattle.std.proofs.lemmas.List.{length-append, length-drop, length-map, length-take-le}
use Rattle.std.proofs.lemmas.Option.{slice_get_within}
use Rattle.share_source.specs.Candidates.{picked_numbers}
use Rattle.share_source.proofs.reading.Reading.replace.Goals as goal

pub returns-in_default-clause-few : goal.returns-in_default-clause-few
returns-in_default-clause-few g c = λ _.
    let shares : List ℕ = c.args.candidates.now.numbers in
    let r = c.requires.reading in
    let index : ℕ = c.args.index in
    let shown : List ℕ = c.deref.result.now in
    let long : length shown ≡ length c.args.self.now.positions.items = ap length c.deref.ensures.value in
    let count = length-map c.args.self.now.positions.items (slice_index shares) in
    let front : List ℕ = take index shown in
    let back : List ℕ = drop (suc index) shown in
    record {
      numbers = picked_numbers shares (front ++ back);
      few = omega (arith, length-map (front ++ back) (slice_index shares), length-append front back, length-take-le index shown (omega (arith, long, c.requires.index)), length-drop (suc index) shown, long, count, r.numbers.enough, c.requires.index);
      all = c.in_default.ensures.none;
    }

pub put-requires-clause-there : goal.put-requires-clause-there
put-requires-clause-there g c =
    let within = slice_get_within c.args.candidates.now.struck c.in-Some.position false c.in-Some.ensures.left in
    omega (arith, within, c.numbers.ensures.count, ap length c.numbers.ensures.numbers)
