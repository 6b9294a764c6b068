use Rattle.std.proofs.Common.{◌≡◌, ◌+◌, ◌-◌, ◌*◌, ◌≤◌, ℕ, List, [], length, take, drop, ap, ◌∙◌, arith, inl, inr}
use Rattle.std.proofs.lemmas.Bool.{cases_lt}
use Rattle.std.proofs.lemmas.List.{drop-drop, get_or-take, get_or_append_left, length-drop, length-take-le}
use Rattle.std.proofs.lemmas.Simd.{length-chunk}
use Rattle.sha2_lanes.proofs.Padding.{get_or-overwritten}
use Rattle.tagged_hash.specs.TaggedHash.{tagged_hash}
use Rattle.tagged_hash.proofs.RowLemmas.{pieces_more, room_behind}
use Rattle.tagged_hash.proofs.row.tagged_pieces.Goals as goal

pub hash_group-requires-clause-whole : goal.hash_group-requires-clause-whole
hash_group-requires-clause-whole c =
    let first : ℕ = 8 * c.loop-group.group in
    let end : ℕ = c.min-end.result in
    let size : ℕ = c.args.size in
    let text : List ℕ = c.args.text.now in
    let low : first ≤ end = omega arith in
    let high : end ≤ c.whole_pieces.result = omega arith in
    let many : length (take (end - first) (drop first c.loop-group.hashes)) ≡ end - first =
    length-chunk first (end - first) c.loop-group.hashes (omega arith) in
    omega (
      arith,
      ap (λ (n : ℕ). n * size) many,
      room_behind first end c.whole_pieces.result size (length text) low high c.whole_pieces.ensures,
      ap length c.pieces_from.ensures,
      length-drop (first * size) text,
    )

pub loop-group-preserved : goal.loop-group-preserved
loop-group-preserved c k below within =
    let first : ℕ = 8 * c.loop-group.group in
    let end : ℕ = c.min-end.result in
    let size : ℕ = c.args.size in
    let text : List ℕ = c.args.text.now in
    let xs : List (List ℕ) = c.loop-group.hashes in
    let ys : List (List ℕ) = c.hash_group.new.hashes in
    let many : length (take (end - first) (drop first xs)) ≡ end - first = length-chunk first (end - first) xs (omega arith) in
    elim (cases_lt k first) [
      | inl lt ↦
          get_or_append_left (take first xs) _ [] k (omega (arith, length-take-le first xs (omega arith)))
          ∙ get_or-take first xs k [] lt ∙ c.loop-group.invariant k lt within
      | inr ge ↦
          let there : first * size + (k - first) * size ≡ k * size = pieces_more first k size ge in
          get_or-overwritten first k xs ys _ [] ge (omega arith) (omega arith)
          ∙ c.hash_group.ensures (k - first) (omega arith)
          ∙ ap (λ (rest : List ℕ). tagged_hash c.args.tag (take size (drop ((k - first) * size) rest))) c.pieces_from.ensures
          ∙ ap (λ (rest : List ℕ). tagged_hash c.args.tag (take size rest)) (drop-drop ((k - first) * size) (first * size) text)
          ∙ ap (λ (n : ℕ). tagged_hash c.args.tag (take size (drop n text))) there
    ]
