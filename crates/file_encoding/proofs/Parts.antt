-- The segments of an encoding are parts of its cap's file.
use Rattle.std.proofs.Common.{◌≡◌, ℕ, List, length, refl, sym, arith}
use Rattle.std.proofs.lemmas.List.{length-map}
use Rattle.aes_ctr.specs.CounterMode.{xored}
use Rattle.aes_ctr.proofs.StreamLemmas.{length-xored_from}
use Rattle.tagged_hash.specs.ConvergentKey.{convergent_key_of}
use Rattle.tagged_hash.specs.TaggedHash.{tagged_hash}
use Rattle.tagged_hash.specs.declared.tag.Tag.TheVariants.{CiphertextSegment}
use Rattle.tagged_hash.proofs.HashLemmas.{length-double_sha256}
use Rattle.share_layout.specs.Geometry.{geometry_of, segment_count}
use Rattle.share_layout.specs.Pieces.{segments_of}
use Rattle.proved_parts.specs.FileOf.{segment_hashes}
use Rattle.proved_parts.proofs.Files.{length-pieces, length-segment, mapped_are_hashes, segment_leads, siblings_are_hashes}
use Rattle.file_encoding.specs.Encoding.{ciphertext_encoding, encoding_of}
use Rattle.file_encoding.specs.Parts.{EncodingHasParts, FileHasParts, FilesAreOfTheirCaps}
use Rattle.file_encoding.proofs.Bytes.{xored-xored}
use Rattle.file_encoding.proofs.OwnShares.{written}

-- each segment of a ciphertext is a part
pub encoding_has_parts : EncodingHasParts
unfolding ciphertext_encoding
encoding_has_parts g key ciphertext shape whole number there =
    let segments : List (List ℕ) = segments_of g ciphertext in
    record {
      block = record { hash = refl; grammar = written g ciphertext shape whole; needed = refl; total = refl; size = refl };
      by = record {
        there = there;
        size = length-segment g ciphertext number there whole;
        hashes =
            siblings_are_hashes (segment_hashes segments) number (mapped_are_hashes (tagged_hash CiphertextSegment) (λ s. length-double_sha256 _) segments)
            (omega (arith, there, length-map segments (tagged_hash CiphertextSegment), length-pieces (segment_count g) g.segment_size ciphertext));
        path = segment_leads g ciphertext number there;
      };
    }

-- and so is each of a file's
pub file_has_parts : FileHasParts
unfolding encoding_of
file_has_parts file secret p shape =
    let g = geometry_of (length file) p.needed p.total p.max_segment in
    let key = convergent_key_of p.needed p.total g.segment_size secret file in
    encoding_has_parts g key (xored key file) shape (length-xored_from key 0 file)

-- and the file is the one of its cap
pub files_of_caps : FilesAreOfTheirCaps
unfolding encoding_of ciphertext_encoding
files_of_caps file secret p shape =
    let g = geometry_of (length file) p.needed p.total p.max_segment in
    let key = convergent_key_of p.needed p.total g.segment_size secret file in
    let whole : length (xored key file) ≡ length file = length-xored_from key 0 file in
    record {
      block = record { hash = refl; grammar = written g (xored key file) shape whole; needed = refl; total = refl; size = refl };
      size = whole;
      root = refl;
      decrypted = sym (xored-xored key file);
    }
