use Rattle.std.proofs.Common.{rules, ◌≡◌, ◌-◌, ℕ, List, ◌++◌, length, take, drop, ap, subst, sym, ◌∙◌, arith}
use Rattle.std.proofs.lemmas.Grind.{common_steps}
use Rattle.std.proofs.lemmas.List.{length-append, length-take, length-take-le, take_at}
use Rattle.std.proofs.lemmas.List.{with_items_is}
use Rattle.std.specs.Vec.{with_items}
use Rattle.aes_ctr.specs.CounterMode.{xored_from}
use Rattle.aes_ctr.proofs.StreamLemmas.{length-xored_from}
use borrow.Rule.Slice.PartMut.{put_mid}
use Rattle.tagged_hash.specs.TaggedHasher.{Holds}
use Rattle.tagged_hash.specs.declared.tag.Tag.TheVariants.{Ciphertext}
use Rattle.proved_parts.specs.FileOf.{segment_hashes}
use Rattle.share_layout.specs.Geometry.{Geometry}
use Rattle.share_layout.specs.Pieces.{pieces}
use Rattle.share_gathering.specs.Groups.{gathered_group}
use Rattle.share_gathering.specs.Shares.{HoldShares}
use Rattle.tagged_hash.specs.Wholes.{AreGiven}
use Rattle.share_gathering.specs.declared.groups.Group.{Group}
use Rattle.share_gathering.specs.declared.shares.ShareSoFar.{ShareSoFar}
use Rattle.tagged_hash.specs.declared.wholes.WholeHashers.{WholeHashers}
use Rattle.share_layout.proofs.GeometryLemmas.{size_low}
use Rattle.share_gathering.proofs.GroupSteps.{has_first, has_offset}
use Rattle.share_gathering.proofs.Rows.{row-room}
use Rattle.file_streaming.proofs.SecondPass.{gathered-parts}
use Rattle.file_streaming.proofs.gathering.Gathering.add.Goals as goal

pub slice_bounds-text-end : goal.slice_bounds-text-end
slice_bounds-text-end c =
    let at = has_offset c.args.geometry.now c.args.group 0 c.requires.group (has_first c.args.geometry.now c.args.group c.requires.group) in
    omega (arith, at.fits, c.requires.segments)

pub slice_bounds-text-end-2 : goal.slice_bounds-text-end-2
slice_bounds-text-end-2 c =
    let at = has_offset c.args.geometry.now c.args.group 0 c.requires.group (has_first c.args.geometry.now c.args.group c.requires.group) in
    sym (length-take-le c.args.group.len c.args.segments.now (omega (arith, at.fits, c.requires.segments)))

pub xor_at-requires : goal.xor_at-requires
xor_at-requires c =
    let at = has_offset c.args.geometry.now c.args.group 0 c.requires.group (has_first c.args.geometry.now c.args.group c.requires.group) in
    omega (arith, at.file, size_low c.args.geometry.now c.requires.group.valid, length-take c.args.group.len c.args.segments.now)

pub slice_bounds-fill-count : goal.slice_bounds-fill-count
slice_bounds-fill-count c =
    let len : ℕ = c.args.group.len in
    let at = has_offset c.args.geometry.now c.args.group 0 c.requires.group (has_first c.args.geometry.now c.args.group c.requires.group) in
    omega (
      arith,
      length-append c.xor_at.new.text (drop len c.args.segments.now),
      ap length c.xor_at.ensures,
      length-xored_from c.args.encoder.now.cipher c.args.group.offset (take len c.args.segments.now),
      length-take-le len c.args.segments.now (omega (arith, at.fits, c.requires.segments)),
    )

pub slice_bounds-fill-start : goal.slice_bounds-fill-start
slice_bounds-fill-start c =
    let len : ℕ = c.args.group.len in
    let at = has_offset c.args.geometry.now c.args.group 0 c.requires.group (has_first c.args.geometry.now c.args.group c.requires.group) in
    omega (
      arith,
      length-append c.xor_at.new.text (drop len c.args.segments.now),
      ap length c.xor_at.ensures,
      length-xored_from c.args.encoder.now.cipher c.args.group.offset (take len c.args.segments.now),
      length-take-le len c.args.segments.now (omega (arith, at.fits, c.requires.segments)),
    )

pub add_leaves-requires : goal.add_leaves-requires
add_leaves-requires c = (has_offset c.args.geometry.now c.args.group 0 c.requires.group (has_first c.args.geometry.now c.args.group c.requires.group)).few

pub add_segments_beside-requires : goal.add_segments_beside-requires
add_segments_beside-requires c = record {
  group = c.requires.group;
  needed = c.requires.needed;
  total = c.requires.total;
  segments_long = search rules;
  padding = grind (arith, common_steps);
  room = omega (arith, row-room c.args.geometry.now c.args.group c.requires.group, c.requires.lanes);
  shares = search rules;
  wholes = search rules;
}

pub slice_bounds-add_segments_beside-end : goal.slice_bounds-add_segments_beside-end
slice_bounds-add_segments_beside-end c =
    let len : ℕ = c.args.group.len in
    let at = has_offset c.args.geometry.now c.args.group 0 c.requires.group (has_first c.args.geometry.now c.args.group c.requires.group) in
    let all : List ℕ = c.xor_at.new.text ++ drop len c.args.segments.now in
    let rest : List ℕ = c.fill.new.self ++ drop (length all - len) (drop len all) in
    let written : length c.xor_at.new.text ≡ len =
    ap length c.xor_at.ensures ∙ length-xored_from c.args.encoder.now.cipher c.args.group.offset (take len c.args.segments.now)
    ∙ length-take-le len c.args.segments.now (omega (arith, at.fits, c.requires.segments)) in
    let front : length (take len all) ≡ len = length-take-le len all (omega (arith, length-append c.xor_at.new.text (drop len c.args.segments.now), written)) in
    sym (length-take-le len (take len all ++ rest) (omega (arith, length-append (take len all) rest, front)))

pub returns-clause-gathered : goal.returns-clause-gathered
returns-clause-gathered c = λ s secret file has.
    let g : Geometry = c.args.geometry.now in
    let group : Group = c.args.group in
    let len : ℕ = group.len in
    let key : List ℕ = c.args.encoder.now.cipher in
    let text : List ℕ = take len c.args.segments.now in
    let encrypted : List ℕ = xored_from key group.offset text in
    let at = has_offset g group 0 c.requires.group (has_first c.args.geometry.now c.args.group c.requires.group) in
    let written : List ℕ = c.xor_at.new.text in
    let all : List ℕ = written ++ drop len c.args.segments.now in
    let same : written ≡ encrypted = c.xor_at.ensures in
    let text_long : length text ≡ len = length-take-le len c.args.segments.now (omega (arith, at.fits, c.requires.segments)) in
    let long : length encrypted ≡ len = length-xored_from key group.offset text ∙ text_long in
    let buffer : List ℕ = put_mid len (length all - len) all c.fill.new.self in
    let front : take len all ≡ written = take_at written (drop len c.args.segments.now) len (ap length same ∙ long) in
    let kept : take len buffer ≡ encrypted =
    take_at (take len all) (c.fill.new.self ++ drop (length all - len) (drop len all)) len (ap length front ∙ ap length same ∙ long) ∙ front ∙ same in
    let size : c.segment_size-size.result ≡ g.segment_size = c.segment_size-size.ensures.value in
    let new : List ShareSoFar = c.add_segments_beside.new.shares in
    let new_wholes : List WholeHashers = c.add_segments_beside.new.wholes in
    let own : c.deref_mut.result.now ≡ c.args.self.now.shares.items = c.deref_mut.ensures.value in
    let own_wholes : c.deref_mut-2.result.now ≡ c.args.self.now.wholes.items = c.deref_mut-2.ensures.value in
    let count : length new ≡ length c.args.self.now.shares.items = c.add_segments_beside.auto.shares ∙ ap length own in
    let count_wholes : length new_wholes ≡ length c.args.self.now.wholes.items = c.add_segments_beside.auto.wholes ∙ ap length own_wholes in
    let put : (with_items c.args.self.now.shares new).items ≡ new = with_items_is c.args.self.now.shares new (omega (arith, count, c.args.self.now.shares.ok.0)) in
    let put_wholes : (with_items c.args.self.now.wholes new_wholes).items ≡ new_wholes =
    with_items_is c.args.self.now.wholes new_wholes (omega (arith, count_wholes, c.args.self.now.wholes.ok.0)) in
    let shares : HoldShares (gathered_group g group encrypted s) new =
    subst (λ (t : List ℕ). HoldShares (gathered_group g group t s) new) kept
    (c.in_ok-add_segments_beside.ensures.shares s (subst (λ (l : List ShareSoFar). HoldShares s l) (sym own) has.shares)) in
    let wholes : AreGiven g.total (gathered_group g group encrypted s).written new_wholes =
    subst (λ (t : List ℕ). AreGiven g.total (gathered_group g group t s).written new_wholes) kept
    (c.in_ok-add_segments_beside.ensures.wholes s (subst (λ (l : List WholeHashers). AreGiven g.total s.written l) (sym own_wholes) has.wholes)) in
    gathered-parts g group s secret file text encrypted c.args.self.now _ has (omega (arith, long, at.whole))
    (c.update.ensures g.needed g.total g.segment_size secret file has.key)
    (subst (λ (e : List ℕ). Holds c.add_segments_beside.new.other Ciphertext (s.ciphertext ++ e)) kept (c.in_ok-add_segments_beside.ensures.other Ciphertext s.ciphertext has.ciphertext))
    (c.in_ok-add_leaves.ensures ∙ λ p. c.args.self.now.leaves.items ++ segment_hashes (pieces group.count (size p) (same p)))
    (ap length put ∙ count ∙ has.count)
    (subst (λ (l : List ShareSoFar). HoldShares (gathered_group g group encrypted s) l) (sym put) shares)
    (ap length put_wholes ∙ count_wholes ∙ has.groups)
    (subst (λ (l : List WholeHashers). AreGiven g.total (gathered_group g group encrypted s).written l) (sym put_wholes) wholes)
