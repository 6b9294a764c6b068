use Rattle.std.proofs.Common.{ℕ, length, map, refl, sym, subst, ◌∙◌, arith}
use Rattle.std.proofs.lemmas.List.{length-take-le}
use Rattle.zfec_code.specs.Shares.{AreSharesOf, HaveSize}
use Rattle.share_layout.specs.Pieces.{block_length, segment_length}
use Rattle.proved_parts.proofs.Cover.{covers}
use Rattle.proved_parts.proofs.decoding.decode_segment.Goals as goal

pub decode-requires-clause-lengths : goal.decode-requires-clause-lengths
decode-requires-clause-lengths c = (
  block_length c.args.geometry.now c.args.number,
  subst (λ (k : ℕ). HaveSize k (block_length c.args.geometry.now c.args.number) (map (λ s. s.1.now) c.args.blocks.now) (length c.args.padded.now)) (sym c.requires.needed) c.requires.lengths,
)

pub returns-clause-decodes : goal.returns-clause-decodes
returns-clause-decodes c =
    let whole = c.decode.auto.out ∙ c.requires.lengths.whole in
    record {
      padded = c.decode.new.out;
      whole = whole;
      shares = subst (λ (k : ℕ). AreSharesOf k c.decode.new.out (map (λ s. s.0) c.args.blocks.now) (map (λ s. s.1.now) c.args.blocks.now)) c.requires.needed c.decode.ensures.shares_of;
      cut = refl;
      long = length-take-le (segment_length c.args.geometry.now c.args.number) c.decode.new.out (omega (arith, whole, covers c.args.geometry.now c.args.number c.segment_length.ensures.valid));
    }
