use Rattle.std.proofs.Common.{◌≡◌, ℕ, ◌+◌, ◌-◌, ◌/◌, ◌<◌, length, min, ap, subst, ◌∙◌, arith}
use Rattle.std.specs.Int.{div_ceil}
use Rattle.share_layout.specs.Geometry.{block_size, segment_count}
use Rattle.share_layout.specs.Layout.{header_size, layout_of}
use Rattle.sources.specs.Source.{HasFailedMore}
use Rattle.block_making.specs.Making.{IsMaking, Making}
use Rattle.block_making.proofs.BlockPuts.{differs-later, read-more, read-none, so_far-all, so_far-more, so_far-none, were_read}
use Rattle.block_making.proofs.MadeBlocks.{same_error}
use Rattle.block_making.proofs.maker.BlockMaker.put_blocks.Goals as goal

pub loop-number-init : goal.loop-number-init
loop-number-init g c =
    let m : Making = c.args.self.now in
    let making : IsMaking m c.self.inside.encoder.now.code = subst (λ (m : Making). IsMaking m c.self.inside.encoder.now.code) c.self.view_is c.self.invariant in
    let first : ℕ = c.saturating_sub.result / c.from-block_size.result in
    let size : c.from-block_size.result ≡ block_size m.geometry = c.from-block_size.ensures ∙ c.block_size.ensures.value ∙ ap (λ (m : Making). block_size m.geometry) c.self.view_is in
    let header : c.header_size-data.result ≡ header_size (layout_of m.geometry) =
    c.header_size-data.ensures.value ∙ ap header_size c.layout.ensures ∙ ap (λ (m : Making). header_size (layout_of m.geometry)) c.self.view_is in
    let first_is : first ≡ (c.args.offset - header_size (layout_of m.geometry)) / block_size m.geometry =
    λ p. (c.saturating_sub.ensures ∙ ap (λ n. c.args.offset - n) header) p / size p in
    record {
      put = so_far-none m making.geometry c.args.offset c.args.out.now making.file first (making.blocks m.share making.number) first_is;
      read = read-none g.S.Source.gives g.S.Source.size g.S.Source.failures c.args.source.now m.geometry first c.min-end.result;
      slots = c.requires.slots;
    }

pub returns-in_err-put_block-clause-changed : goal.returns-in_err-put_block-clause-changed
returns-in_err-put_block-clause-changed g c = λ e file is.
    differs-later g.S.Source.gives c.args.source.now c.loop-number.source c.put_block.new.source c.loop-number.invariant.read.reads file c.loop-number.invariant.read.run
    (c.in_err-put_block.ensures.changed (same_error c.from_residual.result _ _ c.from_residual.ensures.1 e) file is)

pub returns-in_err-put_block-clause-fault : goal.returns-in_err-put_block-clause-fault
returns-in_err-put_block-clause-fault g c = λ e.
    subst (λ n. HasFailedMore n (g.S.Source.failures c.put_block.new.source)) c.loop-number.invariant.read.failures_are
    (c.in_err-put_block.ensures.fault (same_error c.from_residual.result _ _ c.from_residual.ensures.1 e))

pub loop-number-preserved : goal.loop-number-preserved
loop-number-preserved g c =
    let m : Making = c.args.self.now in
    let making : IsMaking m c.self.inside.encoder.now.code = subst (λ (m : Making). IsMaking m c.self.inside.encoder.now.code) c.self.view_is c.self.invariant in
    let count : c.from.result ≡ segment_count m.geometry = c.from.ensures ∙ c.segment_count.ensures.value ∙ ap (λ (m : Making). segment_count m.geometry) c.self.view_is in
    let number : ℕ = c.loop-number.number in
    let within : number < segment_count m.geometry = omega (arith, count, c.min-end.ensures, c.loop-number-test.true) in
    let put = c.in_ok-put_block.ensures.put in
    record {
      put = so_far-more m making.geometry c.args.offset c.args.out.now number c.loop-number.out c.put_block.new.out put.block c.loop-number.invariant.put within
          put.is.long put.is.hash c.put_block.auto.out put.put;
      read = read-more g.S.Source.gives g.S.Source.size g.S.Source.failures c.args.source.now m.geometry (c.saturating_sub.result / c.from-block_size.result) c.min-end.result
          number c.loop-number.source c.put_block.new.source c.loop-number-test.true c.loop-number.invariant.read put.read
          c.in_ok-put_block.ensures.size c.in_ok-put_block.ensures.failures;
      slots = c.put_block.ensures.slots;
    }

pub returns-clause-put : goal.returns-clause-put
returns-clause-put g c =
    let m : Making = c.args.self.now in
    let making : IsMaking m c.self.inside.encoder.now.code = subst (λ (m : Making). IsMaking m c.self.inside.encoder.now.code) c.self.view_is c.self.invariant in
    let size : c.from-block_size.result ≡ block_size m.geometry = c.from-block_size.ensures ∙ c.block_size.ensures.value ∙ ap (λ (m : Making). block_size m.geometry) c.self.view_is in
    let some : 0 < block_size m.geometry = omega (arith, size, c.from-block_size.ensures, c.block_size.ensures.range.0) in
    let header : c.header_size-data.result ≡ header_size (layout_of m.geometry) =
    c.header_size-data.ensures.value ∙ ap header_size c.layout.ensures ∙ ap (λ (m : Making). header_size (layout_of m.geometry)) c.self.view_is in
    let count : c.from.result ≡ segment_count m.geometry = c.from.ensures ∙ c.segment_count.ensures.value ∙ ap (λ (m : Making). segment_count m.geometry) c.self.view_is in
    let last_is : c.saturating_sub-last.result ≡ c.args.offset + length c.args.out.now - header_size (layout_of m.geometry) =
    c.saturating_sub-last.ensures ∙ ap (λ n. c.args.offset + length c.args.out.now - n) header in
    let end_is : c.min-end.result ≡ min (div_ceil c.saturating_sub-last.result (block_size m.geometry)) (segment_count m.geometry) =
    c.min-end.ensures ∙ λ p. min ((c.div_ceil.ensures ∙ ap (λ n. div_ceil c.saturating_sub-last.result n) size) p) (count p) in
    so_far-all m making.geometry c.args.offset c.args.out.now c.loop-number.number c.saturating_sub-last.result c.loop-number.out c.loop-number.invariant.put last_is
    (omega (arith, end_is, c.loop-number-test.false)) some

pub returns-clause-read : goal.returns-clause-read
returns-clause-read g c =
    let m : Making = c.args.self.now in
    let size : c.from-block_size.result ≡ block_size m.geometry = c.from-block_size.ensures ∙ c.block_size.ensures.value ∙ ap (λ (m : Making). block_size m.geometry) c.self.view_is in
    let some : 0 < block_size m.geometry = omega (arith, size, c.from-block_size.ensures, c.block_size.ensures.range.0) in
    let header : c.header_size-data.result ≡ header_size (layout_of m.geometry) =
    c.header_size-data.ensures.value ∙ ap header_size c.layout.ensures ∙ ap (λ (m : Making). header_size (layout_of m.geometry)) c.self.view_is in
    let count : c.from.result ≡ segment_count m.geometry = c.from.ensures ∙ c.segment_count.ensures.value ∙ ap (λ (m : Making). segment_count m.geometry) c.self.view_is in
    let first_is : c.saturating_sub.result / c.from-block_size.result ≡ (c.args.offset - header_size (layout_of m.geometry)) / block_size m.geometry =
    λ p. (c.saturating_sub.ensures ∙ ap (λ n. c.args.offset - n) header) p / size p in
    let last_is : c.saturating_sub-last.result ≡ c.args.offset + length c.args.out.now - header_size (layout_of m.geometry) =
    c.saturating_sub-last.ensures ∙ ap (λ n. c.args.offset + length c.args.out.now - n) header in
    let end_is : c.min-end.result ≡ min (div_ceil c.saturating_sub-last.result (block_size m.geometry)) (segment_count m.geometry) =
    c.min-end.ensures ∙ λ p. min ((c.div_ceil.ensures ∙ ap (λ n. div_ceil c.saturating_sub-last.result n) size) p) (count p) in
    were_read g.S.Source.gives g.S.Source.size g.S.Source.failures c.args.source.now m.geometry c.args.offset (length c.args.out.now)
    (c.saturating_sub.result / c.from-block_size.result) c.saturating_sub-last.result c.min-end.result c.loop-number.number c.loop-number.source
    some first_is last_is end_is c.loop-number.invariant.read
