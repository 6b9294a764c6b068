-- A file that has an encoding has the shape of one.
use Rattle.std.proofs.Common.{◌≡◌, ℕ, ◌≤◌, List, length, min, arith}
use Rattle.std.proofs.lemmas.Grind.{div_ceil_times}
use Rattle.std.proofs.lemmas.List.FromFn.{length-map-range_with_len}
use Rattle.aes_ctr.specs.CounterMode.{xored}
use Rattle.tagged_hash.specs.ConvergentKey.{convergent_key_of}
use Rattle.ueb.specs.Block.{ueb_text}
use Rattle.ueb.specs.Limits.{min_file_size}
use Rattle.ueb.specs.Shape.{IsShape}
use Rattle.share_layout.specs.Geometry.{AreParameters, IsGeometry, geometry_of}
use Rattle.share_layout.specs.Pieces.{segments_of}
use Rattle.share_layout.proofs.GeometryLemmas.{is_geometry}
use Rattle.file_encoding.specs.Encoding.{Parameters, ciphertext_encoding, encoding_of, extension_block_contents, share_of}
use Rattle.file_encoding.specs.Params.{AreChosen, IsEncodable, UploadParameters}

pub has_shape : (size : ℕ) (p : UploadParameters) → AreChosen p.needed p.happy p.total p.max_segment → min_file_size ≤ size → IsEncodable size p
    → IsShape p.needed p.total size (geometry_of size p.needed p.total p.max_segment).segment_size
has_shape size p chosen not_small encodable =
    let parameters : AreParameters size p.needed p.total p.max_segment = record {
      some = omega (arith, not_small);
      some_needed = chosen.some_needed;
      enough = chosen.enough;
      shares = chosen.shares;
      some_max = chosen.some_segment;
      max_not_large = omega (arith, chosen.segment_not_large);
    } in
    let g : IsGeometry (geometry_of size p.needed p.total p.max_segment) =
    is_geometry size p.needed p.total p.max_segment record { parameters = parameters; not_large = encodable.not_large; few = encodable.few } in
    let near = (div_ceil_times (min p.max_segment size) p.needed chosen.some_needed).1 in
    record {
      file = record { some_needed = g.some_needed; enough = g.enough; shares = g.shares; not_small = not_small; not_large = encodable.not_large };
      segments = record {
        some = g.some_segment;
        multiple = g.multiple;
        not_large = omega (arith, near, chosen.segment_not_large, chosen.enough, chosen.shares);
        within = g.within;
        few = g.few;
      };
    }

-- how many shares an encoding has
pub length-shares : (file secret : List ℕ) (p : Parameters) → length (encoding_of file secret p).shares ≡ p.total
unfolding ciphertext_encoding encoding_of
length-shares file secret p =
    let g = geometry_of (length file) p.needed p.total p.max_segment in
    let key = convergent_key_of p.needed p.total g.segment_size secret file in
    let segments = segments_of g (xored key file) in
    length-map-range_with_len (share_of g segments (ueb_text (extension_block_contents g (xored key file) segments))) 0 g.total
