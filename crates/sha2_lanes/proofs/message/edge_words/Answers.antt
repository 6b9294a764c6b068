use Rattle.std.proofs.Common.{◌≡◌, ◌≢◌, ◌+◌, ◌*◌, ◌/◌, ◌<◌, ℕ, List, [], length, get_or, take, drop, ap, ◌∙◌, arith, below_more, inl, inr, refl, replicate, set, zero-add}
use Rattle.std.proofs.lemmas.List.{get_or-replicate, get_or-set_other, get_or-set_same, length-set}
use Rattle.std.proofs.lemmas.Bool.{cases_eq}
use Rattle.sha2.specs.Sha256.{padded_message}
use Rattle.sha2_lanes.specs.Lanes.{message, text}
use Rattle.sha2_lanes.proofs.Padding.{length_padded, same_eight, same_part}
use Rattle.sha2_lanes.proofs.message.edge_words.Goals as goal

pub loop-j-init : goal.loop-j-init
loop-j-init c = record {
  count = refl;
  each = λ k below. ap length (get_or-replicate 8 k (replicate 64 0) [] below);
  made = λ k i before low. absurd (omega arith);
}

pub loop-j-preserved : goal.loop-j-preserved
loop-j-preserved c =
    let l = c.loop-j in
    let block : List ℕ = c.padded_block.result in
    let long : length block ≡ 64 = omega arith in
    let within : l.j < length l.blocks = omega (arith, l.invariant.count) in
    record {
      count = length-set l.blocks l.j block ∙ l.invariant.count;
      each = λ k below. elim (cases_eq k l.j) [
        | inl same ↦ ap (λ (q : ℕ). length (get_or (set l.blocks l.j block) q [])) same
            ∙ ap length (get_or-set_same l.blocks l.j block [] within) ∙ long
        | inr other ↦ ap length (get_or-set_other l.blocks l.j k block [] other) ∙ l.invariant.each k below
      ];
      made = λ k i before low. below_more (λ (q : ℕ). (i : ℕ) → i < 64 → get_or (get_or (set l.blocks l.j block) q []) i 0
          ≡ get_or (padded_message (message c.args.prefix.now c.args.messages.now q)) (c.args.start + i) 0) l.j
          (λ q earlier i low.
          let other : q ≢ l.j = omega arith in
          ap (λ (b : List ℕ). get_or b i 0) (get_or-set_other l.blocks l.j q block [] other) ∙ l.invariant.made q i earlier low)
          (λ i low. ap (λ (b : List ℕ). get_or b i 0) (get_or-set_same l.blocks l.j block [] within) ∙ c.padded_block.ensures i low)
          k before i low;
    }

pub returns : goal.returns
returns c =
    let p : List ℕ = c.args.prefix.now in
    let ms = c.args.messages.now in
    let start : ℕ = c.args.start in
    let l = c.loop-j in
    let padded : ℕ → List ℕ = λ j. padded_message (message p ms j) in
    let one = λ (j : ℕ) (below : j < 8).
    let all : length (padded j) ≡ (length p + length (text ms j) + 72) / 64 * 64 = length_padded p (text ms j) in
    same_part (get_or l.blocks j []) (padded j) 0 start (omega (arith, l.invariant.each j below)) (omega (arith, c.requires.within j below))
    (λ i low. ap (λ (k : ℕ). get_or (get_or l.blocks j []) k 0) (zero-add i) ∙ l.invariant.made j i (omega arith) low) in
    same_eight (λ j. take 64 (drop start (padded j))) c.words.ensures
    (one 0 (omega arith)) (one 1 (omega arith)) (one 2 (omega arith)) (one 3 (omega arith))
    (one 4 (omega arith)) (one 5 (omega arith)) (one 6 (omega arith)) (one 7 (omega arith))
