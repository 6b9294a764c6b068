use Rattle.std.proofs.Common.{◌≡◌, ℕ, ◌+◌, ◌*◌, ◌<◌, ◌≤◌, List, [], ◌∷◌, ◌++◌, Bor, drop, length, map, take, get_or, set, add-mul, ap, sym, ◌∙◌, arith}
use Rattle.std.specs.Prelude.{slice_index}
use Rattle.std.proofs.Math.ListN.{length-set}
use Rattle.std.proofs.Math.Nat.{mul-le-mul_right}
use Rattle.std.proofs.lemmas.List.{drop-drop, length-drop, map-append, take_more, take_more_set}
use Rattle.share_layout.specs.Pieces.{pieces}
use Rattle.share_gathering.proofs.GroupSteps.{pieces-more}
use Rattle.share_source.specs.Candidates.{picked_numbers}
use Rattle.share_source.proofs.segment.pair_blocks.Goals as goal

pub split_at-requires : goal.split_at-requires
split_at-requires c =
    let joined : List ℕ = c.args.joined.now in
    let size : ℕ = c.args.size in
    let i : ℕ = c.loop-i.i in
    let times : (i + 1) * size ≤ length c.args.positions.now * size = mul-le-mul_right {m = i + 1} {n = length c.args.positions.now} size (omega (arith, c.loop-i-test.true, c.loop-i.auto.i-end)) in
    omega (arith, ap length c.loop-i.invariant.rest, length-drop (i * size) joined, c.requires.joined, times, add-mul i 1 size)

pub loop-i-preserved : goal.loop-i-preserved
loop-i-preserved c =
    let shares : List ℕ = c.args.numbers.now in
    let positions : List ℕ = c.args.positions.now in
    let joined : List ℕ = c.args.joined.now in
    let size : ℕ = c.args.size in
    let i : ℕ = c.loop-i.i in
    let p : ℕ = get_or positions i 0 in
    let k = c.loop-i.invariant in
    let pairs : List (ℕ × Bor (List ℕ)) = c.loop-i.pairs in
    let pair : ℕ × Bor (List ℕ) = (slice_index shares p, c.split_at.result.0) in
    let first : ℕ × Bor (List ℕ) → ℕ = λ b. b.0 in
    let second : ℕ × Bor (List ℕ) → List ℕ = λ b. b.1.now in
    let low : i < length positions = omega (arith, c.loop-i-test.true, c.loop-i.auto.i-end) in
    let more : take (i + 1) (set pairs i pair) ≡ take i pairs ++ pair ∷ [] = take_more_set pairs i pair (omega (arith, low, c.requires.few, k.count)) in
    let block : c.split_at.result.0.now ≡ take size (drop (i * size) joined) = c.split_at.ensures.front ∙ ap (take size) k.rest in
    record {
      count = length-set pairs i pair ∙ k.count;
      rest = c.split_at.ensures.back ∙ ap (drop size) k.rest ∙ drop-drop size (i * size) joined
          ∙ ap (λ (n : ℕ). drop n joined) (omega (arith, add-mul i 1 size));
      numbers = ap (map first) more ∙ map-append first (take i pairs) (pair ∷ [])
          ∙ (λ q. k.numbers q ++ slice_index shares p ∷ []) ∙ sym (ap (picked_numbers shares) (take_more positions i 0 low) ∙ map-append (slice_index shares) (take i positions) (p ∷ []));
      blocks = ap (map second) more ∙ map-append second (take i pairs) (pair ∷ [])
          ∙ ap (λ (l : List (List ℕ)). l ++ c.split_at.result.0.now ∷ []) k.blocks
          ∙ ap (λ (b : List ℕ). pieces i size joined ++ b ∷ []) block ∙ sym (pieces-more i size joined);
    }
