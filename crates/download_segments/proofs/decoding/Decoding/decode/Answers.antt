use Rattle.std.proofs.Common.{◌≡◌, ◌*◌, List, ℕ, length, map, rules}
use Rattle.share_layout.specs.Pieces.{block_length, pieces}
use Rattle.download_segments.proofs.DecodingLemmas.{have_size}
use Rattle.download_segments.proofs.decoding.Decoding.decode.Goals as goal

pub decode_segment-whole-requires-clause-lengths : goal.decode_segment-whole-requires-clause-lengths
decode_segment-whole-requires-clause-lengths c =
    let g = c.self.inside.geometry in
    let joined : List ℕ = c.args.joined.now in
    let is : map (λ s. s.1.now) c.deref-2.result.now ≡ pieces g.needed (block_length g c.args.number) joined = search rules in
    let long : length joined ≡ g.needed * block_length g c.args.number = search rules in
    let same : length c.deref_mut.result.now ≡ length joined = search rules in
    have_size g.needed (block_length g c.args.number) joined (map (λ s. s.1.now) c.deref-2.result.now) (length c.deref_mut.result.now) is long same
