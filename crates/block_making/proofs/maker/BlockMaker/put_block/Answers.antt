use Rattle.std.proofs.Common.{rules, ◌≡◌, ◌*◌, take, inr, refl, ap, sym, subst, ◌∙◌}
use Rattle.share_layout.specs.Pieces.{block_length}
use Rattle.block_making.specs.Making.{IsBlock, IsMaking, ciphertext_from, Making, for_share}
use Rattle.block_making.proofs.MadeBlocks.{block_differs, has_block, same_error}
use Rattle.block_making.proofs.OtherBytes.{ended-differs}
use Rattle.block_making.proofs.maker.BlockMaker.put_block.Goals as goal

pub returns-in_err-read_segment-clause-changed : goal.returns-in_err-read_segment-clause-changed
returns-in_err-read_segment-clause-changed g c = λ e file is.
    let m : Making = c.args.self.now in
    let making : IsMaking m c.self.inside.encoder.now.code = subst (λ (m : Making). IsMaking m c.self.inside.encoder.now.code) c.self.view_is c.self.invariant in
    ended-differs g.S.Source.gives c.args.source.now c.read_segment.new.source m.geometry.size file
    (c.in_err-read_segment.ensures.ended (same_error c.from_residual.result _ _ c.from_residual.ensures.1 e)) (is m.share making.number).long

pub returns-then-not-make_blocks-clause-changed : goal.returns-then-not-make_blocks-clause-changed
returns-then-not-make_blocks-clause-changed g c = λ _ file is.
    let m : Making = c.args.self.now in
    let read = c.in_ok-read_segment.ensures.read in
    let other = c.if-not-make_blocks.ensures.other refl (ciphertext_from m.key (c.args.number * m.geometry.segment_size) read.was.segment) read.padded_is in
    block_differs g.S.Source.gives (for_share m other.share) c.args.number c.args.source.now c.read_segment.new.source read.was.segment file read.was.long read.was.read
    other.other (has_block (for_share m other.share) file c.args.number c.requires.number (is other.share other.low))

pub returns-clause-put : goal.returns-clause-put
returns-clause-put g c =
    let m : Making = c.args.self.now in
    let size_is : c.block_length-size.result ≡ block_length m.geometry c.args.number = c.block_length-size.ensures.value ∙ ap (λ (m : Making). block_length m.geometry c.args.number) c.self.view_is in
    record {
      block = take c.block_length-size.result c.make_blocks.new.lanes;
      is = subst (λ n. IsBlock m.geometry m.leaves m.share c.args.number (take n c.make_blocks.new.lanes)) (sym size_is) (c.if-not-make_blocks.ensures.made refl);
      put = search rules;
      read = inr c.in_ok-read_segment.ensures.read.was;
    }
