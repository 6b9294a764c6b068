use Rattle.std.proofs.Common.{rules, ◌≡◌, ◌-◌, ℕ, List, ◌++◌, length, take, drop, min, ap, subst, sym, ◌∙◌, arith}
use Rattle.std.proofs.lemmas.Grind.{common_steps}
use Rattle.std.proofs.lemmas.List.{length-take-le, take-take, take_at}
use Rattle.std.proofs.lemmas.List.{with_items_is}
use Rattle.std.specs.Vec.{with_items}
use borrow.Rule.Slice.PartMut.{put_mid}
use Rattle.proved_parts.specs.FileOf.{segment_hashes}
use Rattle.share_layout.specs.Geometry.{Geometry}
use Rattle.share_layout.specs.Pieces.{pieces}
use Rattle.share_gathering.specs.Groups.{gathered_group}
use Rattle.share_gathering.specs.Shares.{HoldShares}
use Rattle.tagged_hash.specs.Wholes.{AreGiven}
use Rattle.share_gathering.specs.declared.groups.Group.{Group}
use Rattle.share_gathering.specs.declared.shares.ShareSoFar.{ShareSoFar}
use Rattle.tagged_hash.specs.declared.wholes.WholeHashers.{WholeHashers}
use Rattle.share_gathering.proofs.GroupSteps.{has_first, has_offset}
use Rattle.share_gathering.proofs.Rows.{row-room}
use Rattle.file_streaming.proofs.remaking.Remaking.add.Goals as goal

pub slice_bounds-add_leaves-end : goal.slice_bounds-add_leaves-end
slice_bounds-add_leaves-end c =
    let at = has_offset c.args.geometry.now c.args.group 0 c.requires.group (has_first c.args.geometry.now c.args.group c.requires.group) in
    omega (arith, at.fits, c.requires.segments, c.min-plain.ensures)

pub slice_bounds-add_leaves-end-2 : goal.slice_bounds-add_leaves-end-2
slice_bounds-add_leaves-end-2 c =
    let at = has_offset c.args.geometry.now c.args.group 0 c.requires.group (has_first c.args.geometry.now c.args.group c.requires.group) in
    sym (length-take-le c.min-plain.result c.args.segments.now (omega (arith, at.fits, c.requires.segments, c.min-plain.ensures)))

pub add_leaves-requires : goal.add_leaves-requires
add_leaves-requires c = (has_offset c.args.geometry.now c.args.group 0 c.requires.group (has_first c.args.geometry.now c.args.group c.requires.group)).few

pub slice_bounds-fill-count : goal.slice_bounds-fill-count
slice_bounds-fill-count c =
    let at = has_offset c.args.geometry.now c.args.group 0 c.requires.group (has_first c.args.geometry.now c.args.group c.requires.group) in
    omega (arith, at.fits, c.requires.segments)

pub slice_bounds-fill-start : goal.slice_bounds-fill-start
slice_bounds-fill-start c =
    let at = has_offset c.args.geometry.now c.args.group 0 c.requires.group (has_first c.args.geometry.now c.args.group c.requires.group) in
    omega (arith, at.fits, c.requires.segments)

pub add_segments-requires : goal.add_segments-requires
add_segments-requires c = record {
  group = c.requires.group;
  needed = c.requires.needed;
  total = c.requires.total;
  segments_long = search rules;
  padding = grind (arith, common_steps);
  room = omega (arith, row-room c.args.geometry.now c.args.group c.requires.group, c.requires.lanes);
  shares = search rules;
  wholes = search rules;
}

pub returns-clause-more : goal.returns-clause-more
returns-clause-more c =
    let g : Geometry = c.args.geometry.now in
    let group : Group = c.args.group in
    let len : ℕ = group.len in
    let all : List ℕ = c.args.segments.now in
    let text : List ℕ = take len all in
    let at = has_offset g group 0 c.requires.group (has_first g group c.requires.group) in
    let long : length text ≡ len = length-take-le len all (omega (arith, at.fits, c.requires.segments)) in
    let buffer : List ℕ = put_mid len (length all - len) all c.fill.new.self in
    let kept : take len buffer ≡ text = take_at text (c.fill.new.self ++ drop (length all - len) (drop len all)) len long in
    let size : c.segment_size-segment_size.result ≡ g.segment_size = c.segment_size-segment_size.ensures.value in
    let plain : c.min-plain.result ≡ min len (c.args.size - group.offset) = c.min-plain.ensures ∙ ap (min len) c.saturating_sub.ensures in
    let part : take c.min-plain.result all ≡ take (min len (c.args.size - group.offset)) text =
    sym (take-take c.min-plain.result len all (omega (arith, plain))) ∙ ap (λ n. take n text) plain in
    let new : List ShareSoFar = c.add_segments.new.shares in
    let new_wholes : List WholeHashers = c.add_segments.new.wholes in
    let own : c.deref_mut.result.now ≡ c.args.self.now.shares.items = c.deref_mut.ensures.value in
    let own_wholes : c.deref_mut-2.result.now ≡ c.args.self.now.wholes.items = c.deref_mut-2.ensures.value in
    let count : length new ≡ length c.args.self.now.shares.items = c.add_segments.auto.shares ∙ ap length own in
    let count_wholes : length new_wholes ≡ length c.args.self.now.wholes.items = c.add_segments.auto.wholes ∙ ap length own_wholes in
    let put : (with_items c.args.self.now.shares new).items ≡ new = with_items_is c.args.self.now.shares new (omega (arith, count, c.args.self.now.shares.ok.0)) in
    let put_wholes : (with_items c.args.self.now.wholes new_wholes).items ≡ new_wholes =
    with_items_is c.args.self.now.wholes new_wholes (omega (arith, count_wholes, c.args.self.now.wholes.ok.0)) in
    record {
      leaves = c.in_ok-add_leaves.ensures ∙ λ p. c.args.self.now.leaves.items ++ segment_hashes (pieces group.count (size p) (part p));
      shares = λ s holds.
          let shares : HoldShares (gathered_group g group text s) new =
          subst (λ (t : List ℕ). HoldShares (gathered_group g group t s) new) kept
          (c.in_ok-add_segments.ensures.shares s (subst (λ (l : List ShareSoFar). HoldShares s l) (sym own) holds.shares)) in
          let wholes : AreGiven g.total (gathered_group g group text s).written new_wholes =
          subst (λ (t : List ℕ). AreGiven g.total (gathered_group g group t s).written new_wholes) kept
          (c.in_ok-add_segments.ensures.wholes s (subst (λ (l : List WholeHashers). AreGiven g.total s.written l) (sym own_wholes) holds.wholes)) in
          record {
            count = ap length put ∙ count ∙ holds.count;
            shares = subst (λ (l : List ShareSoFar). HoldShares (gathered_group g group text s) l) (sym put) shares;
            groups = ap length put_wholes ∙ count_wholes ∙ holds.groups;
            wholes = subst (λ (l : List WholeHashers). AreGiven g.total (gathered_group g group text s).written l) (sym put_wholes) wholes;
          };
    }
