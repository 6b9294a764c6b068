use Rattle.std.proofs.Common.{◌≡◌, ◌+◌, ◌*◌, ◌/◌, ◌%◌, ℕ, List, [], get_or, bit_xor, refl, ap, sym, ◌∙◌, arith, inl, inr}
use Rattle.std.proofs.lemmas.Bool.{cases_lt}
use Rattle.aes_ctr.specs.Slices.{block_in}
use Rattle.aes_ctr.proofs.StreamLemmas.{stream_byte-piece, xored_from-whole}
use Rattle.aes_ctr.proofs.Aes128.add_stream.Goals as goal

pub loop-t-preserved : goal.loop-t-preserved
loop-t-preserved c =
    let l = c.loop-t in
    let vectors : List (List ℕ) = c.transposed-vectors.result in
    record {
      added = λ k below. elim (cases_lt k (32 * l.t)) [
        | inl before ↦ c.add_vector.ensures.below k before ∙ l.invariant.added k before
        | inr here ↦
            let offset : 32 * l.t + k % 32 ≡ k = omega arith in
            let number : l.t ≡ k / 32 = omega arith in
            ap (λ (q : ℕ). get_or c.add_vector.new.text q 0) (sym offset)
            ∙ c.add_vector.ensures.added (k % 32) (omega arith)
            ∙ (λ i. bit_xor ((ap (λ (q : ℕ). get_or l.piece q 0) offset ∙ l.invariant.kept k here) i) (get_or (get_or vectors (number i) []) (k % 32) 0))
      ];
      kept = λ k above. c.add_vector.ensures.above k (omega arith) ∙ l.invariant.kept k (omega arith);
    }

pub returns : goal.returns
returns c index is =
    let l = c.loop-t in
    let key = c.args.self.now in
    xored_from-whole key c.args.piece.now l.piece c.transposed-vectors.result index c.requires.whole (omega arith)
    (λ k below. stream_byte-piece key c.transposed-vectors.result (block_in c.later_rounds.result) index k below c.transposed-vectors.ensures.blocks (λ j. refl)
    (λ j low. c.later_rounds.ensures.blocks j _ low (is j low)))
    (λ k below. l.invariant.added k (omega arith))
