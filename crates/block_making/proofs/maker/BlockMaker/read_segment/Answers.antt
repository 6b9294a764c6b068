use Rattle.std.proofs.Common.{◌≡◌, ℕ, ◌+◌, ◌-◌, ◌*◌, List, ◌++◌, length, take, drop, replicate, ap, subst, sym, ◌∙◌, arith}
use Rattle.std.proofs.lemmas.List.{length-append, length-drop, length-take}
use Rattle.share_layout.specs.Geometry.{IsGeometry}
use Rattle.share_layout.specs.Pieces.{segment_length}
use Rattle.block_making.specs.Making.{IsSegmentRead, Making, ciphertext_from}
use Rattle.block_making.proofs.ReadRuns.{ended-wider}
use Rattle.block_making.proofs.MadeBlocks.{ended_fault, is_room, segment_read}
use Rattle.block_making.proofs.MadeBlocks.{ends-within}
use Rattle.block_making.proofs.maker.BlockMaker.read_segment.Goals as goal

pub slice_bounds-read_part-end : goal.slice_bounds-read_part-end
slice_bounds-read_part-end g c =
    let valid = subst (λ (m : Making). IsGeometry m.geometry) c.self.view_is c.segment_size.ensures.valid in
    let len = c.segment_length-len.ensures.value ∙ ap (λ (m : Making). segment_length m.geometry c.args.number) c.self.view_is in
    omega (arith, len, (is_room c.args.self.now.geometry c.args.number (length c.args.padded.now) valid c.requires.number c.requires.room).within)

pub slice_bounds-read_part-end-2 : goal.slice_bounds-read_part-end-2
slice_bounds-read_part-end-2 g c =
    let valid = subst (λ (m : Making). IsGeometry m.geometry) c.self.view_is c.segment_size.ensures.valid in
    let len = c.segment_length-len.ensures.value ∙ ap (λ (m : Making). segment_length m.geometry c.args.number) c.self.view_is in
    omega (
      arith,
      len,
      (is_room c.args.self.now.geometry c.args.number (length c.args.padded.now) valid c.requires.number c.requires.room).within,
      length-take c.segment_length-len.result c.args.padded.now,
    )

pub returns-in_err-read_part-clause-ended : goal.returns-in_err-read_part-clause-ended
returns-in_err-read_part-clause-ended g c = λ e.
    let valid = subst (λ (m : Making). IsGeometry m.geometry) c.self.view_is c.segment_size.ensures.valid in
    let len = c.segment_length-len.ensures.value ∙ ap (λ (m : Making). segment_length m.geometry c.args.number) c.self.view_is in
    let offset : c.from.result * c.from-2.result ≡ c.args.number * c.args.self.now.geometry.segment_size =
    λ p. c.from.ensures p * (c.from-2.ensures ∙ c.segment_size.ensures.value ∙ ap (λ (m : Making). m.geometry.segment_size) c.self.view_is) p in
    let low = ends-within c.args.self.now.geometry c.args.number (c.from.result * c.from-2.result) c.segment_length-len.result valid c.requires.number offset len in
    ended-wider g.S.Source.gives c.args.source.now (c.from.result * c.from-2.result + length (take c.segment_length-len.result c.args.padded.now))
    c.args.self.now.geometry.size c.read_part.new.source
    (c.in_err-read_part.ensures.ended (ended_fault c.from_residual.result _ c.from_residual.ensures.1 e))
    (omega (arith, low, length-take c.segment_length-len.result c.args.padded.now))

pub encrypt-requires-clause-within : goal.encrypt-requires-clause-within
encrypt-requires-clause-within g c =
    let valid = subst (λ (m : Making). IsGeometry m.geometry) c.self.view_is c.segment_size.ensures.valid in
    let len = c.segment_length-len.ensures.value ∙ ap (λ (m : Making). segment_length m.geometry c.args.number) c.self.view_is in
    omega (
      arith,
      len,
      (is_room c.args.self.now.geometry c.args.number (length c.args.padded.now) valid c.requires.number c.requires.room).within,
      length-take c.segment_length-len.result c.args.padded.now,
      length-drop c.segment_length-len.result c.args.padded.now,
      length-append c.read_part.new.out (drop c.segment_length-len.result c.args.padded.now),
    )

pub returns-clause-read : goal.returns-clause-read
returns-clause-read g c =
    let valid = subst (λ (m : Making). IsGeometry m.geometry) c.self.view_is c.segment_size.ensures.valid in
    let len = c.segment_length-len.ensures.value ∙ ap (λ (m : Making). segment_length m.geometry c.args.number) c.self.view_is in
    let offset : c.from.result * c.from-2.result ≡ c.args.number * c.args.self.now.geometry.segment_size =
    λ p. c.from.ensures p * (c.from-2.ensures ∙ c.segment_size.ensures.value ∙ ap (λ (m : Making). m.geometry.segment_size) c.self.view_is) p in
    let padded : List ℕ = c.read_part.new.out ++ drop c.segment_length-len.result c.args.padded.now in
    let written = c.encrypt.ensures
    ∙ ap (λ (m : Making). ciphertext_from m.key (c.from.result * c.from-2.result) (take c.segment_length-len.result padded) ++ replicate (length padded - c.segment_length-len.result) 0) c.self.view_is in
    subst (λ (p : List ℕ). IsSegmentRead g.S.Source.gives c.args.source.now c.args.self.now c.args.number p c.read_part.new.source) (sym written)
    (segment_read g.S.Source.gives c.args.source.now c.read_part.new.source c.args.self.now c.args.number (c.from.result * c.from-2.result) c.segment_length-len.result
    c.args.padded.now c.read_part.new.out c.requires.number
    (is_room c.args.self.now.geometry c.args.number (length c.args.padded.now) valid c.requires.number c.requires.room) offset len c.read_part.auto.out c.in_ok-read_part.ensures.ok)
