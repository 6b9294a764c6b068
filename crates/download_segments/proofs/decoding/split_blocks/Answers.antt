use Rattle.std.proofs.Common.{◌≡◌, ℕ, ◌*◌, List, [], ◌∷◌, ◌++◌, Bor, drop, map, take, get_or, add-one, add-mul, ap, sym, ◌∙◌, arith}
use Rattle.std.proofs.lemmas.List.{drop-drop, map-append, take_more}
use Rattle.share_layout.specs.Pieces.{pieces}
use Rattle.download_segments.proofs.DecodingLemmas.{pieces_more}
use Rattle.download_segments.proofs.decoding.split_blocks.Goals as goal

pub loop-number-preserved : goal.loop-number-preserved
loop-number-preserved c =
    let numbers : List ℕ = c.args.numbers.now in
    let joined : List ℕ = c.args.joined.now in
    let size : ℕ = c.args.size in
    let i : ℕ = c.loop-number.number-index in
    let k = c.loop-number.invariant in
    let pair : ℕ × Bor (List ℕ) = (get_or numbers i 0, c.split_at.result.0) in
    let more : c.push.new.self.items ≡ c.loop-number.blocks.items ++ pair ∷ [] = c.in_ok-push.ensures.items in
    let first : ℕ × Bor (List ℕ) → ℕ = λ b. b.0 in
    let second : ℕ × Bor (List ℕ) → List ℕ = λ b. b.1.now in
    let block : c.split_at.result.0.now ≡ take size (drop (i * size) joined) = c.split_at.ensures.front ∙ ap (take size) k.rest in
    record {
      rest = c.split_at.ensures.back ∙ ap (drop size) k.rest ∙ drop-drop size (i * size) joined
          ∙ ap (λ (n : ℕ). drop n joined) (omega (arith, add-mul i 1 size));
      numbers = ap (map first) more ∙ map-append first c.loop-number.blocks.items (pair ∷ [])
          ∙ ap (λ (l : List ℕ). l ++ get_or numbers i 0 ∷ []) k.numbers ∙ sym (take_more numbers i 0 c.loop-number-test.true);
      blocks = ap (map second) more ∙ map-append second c.loop-number.blocks.items (pair ∷ [])
          ∙ ap (λ (l : List (List ℕ)). l ++ c.split_at.result.0.now ∷ []) k.blocks
          ∙ ap (λ (b : List ℕ). pieces i size joined ++ b ∷ []) block
          ∙ sym (pieces_more i size joined) ∙ ap (λ (n : ℕ). pieces n size joined) (sym (add-one i));
    }
