use Rattle.std.proofs.Common.{◌≡◌, ℕ, ◌*◌, ◌/◌, ◌%◌, ◌<◌, List, drop, length, take, ap, subst, sym, ◌∙◌, arith}
use Rattle.std.proofs.lemmas.List.{length-take-le}
use Rattle.ueb.specs.Shape.{rounded_up}
use Rattle.share_layout.specs.Geometry.{Geometry, segment_count}
use Rattle.share_layout.specs.Pieces.{block_length}
use Rattle.share_source.specs.Candidates.{Candidates}
use Rattle.share_source.specs.Decoded.{Decoding, GivesDecoded, IsSegmentDecoded}
use Rattle.share_source.proofs.Decodings.{blocks_fit, gives_part}
use Rattle.share_source.proofs.Offsets.{in_padded, in_segment}
use Rattle.share_source.proofs.source.ShareSourceSource.read_at.Goals as goal

pub read_segment-requires-clause-there : goal.read_segment-requires-clause-there
read_segment-requires-clause-there g c =
    let geometry : Geometry = c.self.inside.reading.geometry in
    let size : c.from-size.result ≡ geometry.segment_size = c.from-size.ensures ∙ c.segment_size.ensures.value in
    let low : c.args.offset < rounded_up geometry.size geometry.needed = omega (arith, c.if-padded_size-offset.false, c.padded_size.ensures) in
    subst (λ s. c.args.offset / s < segment_count geometry) (sym size) (in_segment geometry c.args.offset c.segment_size.ensures.valid low)

pub overflow_cast-number : goal.overflow_cast-number
overflow_cast-number g c =
    let geometry : Geometry = c.self.inside.reading.geometry in
    let size : c.from-size.result ≡ geometry.segment_size = c.from-size.ensures ∙ c.segment_size.ensures.value in
    let low : c.args.offset < rounded_up geometry.size geometry.needed = omega (arith, c.if-padded_size-offset.false, c.padded_size.ensures) in
    let there = subst (λ s. c.args.offset / s < segment_count geometry) (sym size) (in_segment geometry c.args.offset c.segment_size.ensures.valid low) in
    omega (arith, there, c.segment_size.ensures.valid.few)

pub copy_part-requires : goal.copy_part-requires
copy_part-requires g c =
    let geometry : Geometry = c.self.inside.reading.geometry in
    let offset : ℕ = c.args.offset in
    let size : c.from-size.result ≡ geometry.segment_size = c.from-size.ensures ∙ c.segment_size.ensures.value in
    let low : offset < rounded_up geometry.size geometry.needed = omega (arith, c.if-padded_size-offset.false, c.padded_size.ensures) in
    let inside : offset % c.from-size.result < geometry.needed * block_length geometry (offset / c.from-size.result) =
    subst (λ s. offset % s < geometry.needed * block_length geometry (offset / s)) (sym size) (in_padded geometry offset c.segment_size.ensures.valid low) in
    let room : length c.deref.result.now ≡ geometry.segment_size =
    ap length c.deref.ensures.value ∙ c.in-Ok.ensures.reading.segment ∙ ap (λ h. h.segment_size) c.in-Ok.ensures.geometry in
    let fits = blocks_fit geometry (offset / c.from-size.result) in
    let long : length (take c.in-Ok.whole c.deref.result.now) ≡ c.in-Ok.whole = length-take-le c.in-Ok.whole c.deref.result.now (omega (arith, c.in-Ok.ensures.long, room, fits)) in
    omega (arith, inside, long, c.in-Ok.ensures.long)

pub returns-in-Ok-clause-gives : goal.returns-in-Ok-clause-gives
returns-in-Ok-clause-gives g c = λ some.
    let gives = g.B.ShareBytes.gives in
    let fails = g.B.ShareBytes.fails in
    let geometry : Geometry = c.self.inside.reading.geometry in
    let offset : ℕ = c.args.offset in
    let count : ℕ = c.copy_part.result in
    let out : List ℕ = c.copy_part.new.out in
    let positions : List ℕ = c.read_segment.new.reading.positions.items in
    let new : Candidates _ = c.read_segment.new.candidates in
    let padded : List ℕ = take c.in-Ok.whole c.read_segment.new.reading.segment.items in
    let old : Decoding _ = record {
      geometry = geometry;
      candidates = c.self.inside.candidates;
      reading = c.self.inside.reading.positions.items;
      lacks_memory = c.self.inside.lacks_memory;
      failures = c.self.inside.failures;
    } in
    let size : c.from-size.result ≡ geometry.segment_size = c.from-size.ensures ∙ c.segment_size.ensures.value in
    let low : offset < rounded_up geometry.size geometry.needed = omega (arith, c.if-padded_size-offset.false, c.padded_size.ensures) in
    let decoded = subst (λ s. IsSegmentDecoded gives fails geometry (offset / s) old.candidates padded positions new) size c.in-Ok.ensures.decoded in
    let part : take count out ≡ take count (drop (offset % geometry.segment_size) padded) =
    c.copy_part.ensures.part ∙ (λ q. take count (drop (offset % size q) (take c.in-Ok.whole (c.deref.ensures.value q)))) in
    let given = gives_part gives fails old offset count out padded positions new low decoded (c.copy_part.ensures.some some) (omega (arith, c.copy_part.ensures.few, c.copy_part.auto.out)) part c.in-Ok.ensures.read_on in
    subst (λ (x : Decoding _). GivesDecoded gives fails x offset (take count out)
    (record { geometry = c.read_segment.new.reading.geometry; candidates = new; reading = positions; lacks_memory = old.lacks_memory; failures = old.failures })) c.self.view_is
    (subst (λ h. GivesDecoded gives fails old offset (take count out) (record { geometry = h; candidates = new; reading = positions; lacks_memory = old.lacks_memory; failures = old.failures }))
    (sym c.in-Ok.ensures.geometry) given)
