-- What was hashed for the pieces of a file.
use Rattle.std.proofs.Common.{ℕ, ◌+◌, ◌*◌, ◌<◌, inl, inr, List, Contains, refl, subst, sym, arith}
use Rattle.merkle.specs.Partial.{known_siblings}
use Rattle.share_layout.specs.Geometry.{segment_count}
use Rattle.download_segments.specs.Pieces.{IsSlice}
use Rattle.download_segments.specs.State.{ProvesSegment}
use Rattle.download_segments.proofs.KnownLemmas.{known_inputs, known_segment}
use Rattle.download_segments.specs.GroupState.{GroupState}
use Rattle.download_file.specs.State.{FileState}
use Rattle.download_file.specs.Hashed.{GivenAreHashed, HashedStays, node, segment}
use Rattle.download_file.specs.Right.{IsFile, made_end}
use Rattle.download_file.proofs.EvidenceLemmas.{groups_within, made_within}
use Rattle.download_file.proofs.GrowLemmas.{segment_keeps_made}

-- there is such a segment
pub segment_there : (f : FileState) (group : GroupState) (number : ℕ) → IsFile f → Contains f.groups group → number < group.end → number < segment_count f.handout.geometry
segment_there f group number is among before =
    let end = (groups_within f.first (made_end f) f.groups group is.in_order among).0 in
    let upto = made_within f is in
    let count = is.range.within in
    omega (arith, before, end, upto, count)

pub given_are_hashed : GivenAreHashed
given_are_hashed entries f p cap block is g key cap_block =
    let m = g.made in
    let there = segment_there f m.group g.number is m.among m.before in
    let proves : ProvesSegment f.handout g.number g.segment = subst (ProvesSegment f.handout g.number) m.is m.made.proved in
    record {
      block = cap_block;
      given = record {
        number = g.number;
        segment = g.segment;
        siblings = known_siblings f.handout.trees.ciphertext g.number;
        by = known_segment f.handout g.number g.segment is.handout there proves;
        slice = subst (λ (k : List ℕ). IsSlice k f.handout.ueb.segment_size g.number g.segment p) key g.slice;
      };
      block_hashed = inl refl;
      segment_hashed = λ input among. inr (elim (known_inputs f.handout g.number g.segment is.handout there proves input among) [
        | inl own ↦ segment g.number g.segment m (sym own)
        | inr known ↦ node known
      ]);
    }

-- what was hashed stays so
pub hashed_stay : HashedStays
hashed_stay old new f g input keeps read same (segment number bytes made is) =
    segment number bytes (same.made new number bytes (segment_keeps_made old new f keeps read number bytes made)) is
hashed_stay old new f g input keeps read same (node k) = node (record {
  number = k.number;
  left = k.left;
  right = k.right;
  knows_left = same.trees.ciphertext.known (2 * k.number + 1) k.left k.knows_left;
  knows_right = same.trees.ciphertext.known (2 * k.number + 2) k.right k.knows_right;
  is = k.is;
})
