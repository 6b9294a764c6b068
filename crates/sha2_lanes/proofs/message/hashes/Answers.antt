use Rattle.std.proofs.Common.{◌≡◌, ◌+◌, ◌*◌, ◌/◌, ℕ, List, length, take, drop, sym, ap, ◌∙◌, arith}
use Rattle.sha2.specs.Sha256.{compress, hash_after, initial_hash_256, padded_message}
use Rattle.sha2.proofs.Absorbing256.{hash_after_next}
use Rattle.sha2_lanes.specs.Lanes.{message, text}
use Rattle.sha2_lanes.proofs.Padding.{length_padded}
use Rattle.sha2_lanes.proofs.message.hashes.Goals as goal

pub loop-b-init : goal.loop-b-init
unfolding hash_after
loop-b-init c = record { vectors = c.initial-h.ensures.vectors; lanes = c.initial-h.ensures.lanes }

pub loop-b-preserved : goal.loop-b-preserved
loop-b-preserved c =
    let l = c.loop-b in
    let of : ℕ → List ℕ = λ j. padded_message (message c.args.prefix.now c.args.messages.now j) in
    record {
      vectors = c.compress.ensures.vectors;
      lanes = λ j below.
          c.compress.ensures.lanes (λ k. take 64 (drop (l.b * 64) (of k))) c.block_words-words.ensures j below
          ∙ ap (λ (h : List ℕ). compress h (take 64 (drop (l.b * 64) (of j)))) (l.invariant.lanes j below)
          ∙ sym (hash_after_next initial_hash_256 (of j) l.b);
    }

pub returns-clause-lanes : goal.returns-clause-lanes
returns-clause-lanes c j below =
    let p = c.args.prefix.now in
    let ms = c.args.messages.now in
    let t : List ℕ = text ms j in
    let l : length t ≡ c.args.len = c.requires.messages j below in
    let all : length (padded_message (message p ms j)) ≡ (length p + length t + 72) / 64 * 64 = length_padded p t in
    let count : c.loop-b.b ≡ length (padded_message (message p ms j)) / 64 = omega arith in
    c.loop-b.invariant.lanes j below ∙ ap (hash_after initial_hash_256 (padded_message (message p ms j))) count
