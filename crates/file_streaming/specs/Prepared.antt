-- A file that was made ready for its upload, of which only hashes are kept.
use Rattle.std.specs.Prelude.{◌≡◌, ◌≢◌, ◌⊎◌, ℕ, Some, List, length, map}
use Rattle.std.specs.List.{range_with_len}
use Rattle.aes_ctr.specs.CounterMode.{xored}
use Rattle.tagged_hash.specs.ConvergentKey.{convergent_key_of}
use Rattle.tagged_hash.specs.TaggedHash.{share_digest}
use Rattle.cap_text.specs.Cap.{ReadCapValue}
use Rattle.ueb.specs.Block.{ueb_text}
use Rattle.share_layout.specs.Geometry.{Geometry, geometry_of}
use Rattle.share_layout.specs.Pieces.{segments_of}
use Rattle.share_verify.specs.Pieces.{block_hashes}
use Rattle.proved_parts.specs.FileOf.{segment_hashes}
use Rattle.file_encoding.specs.Encoding.{Parameters, blocks_of, ciphertext_encoding}
use Rattle.file_encoding.specs.Encoding.{extension_block_contents}
use Rattle.sources.specs.Change.{HasEndedEarly}
use Rattle.sources.specs.Source.{IsReadTwice}
use Rattle.share_gathering.specs.KeptFile.{KeptFile, kept_length}

-- the geometry, the cap, the extension block, the leaves of the ciphertext tree and of each share's
-- block tree, and the digest of each share
pub record PreparedFile : Type 0 where
  pub geometry : Geometry
  pub cap : ReadCapValue
  pub extension_block : List ℕ
  pub leaves : List (List ℕ)
  pub block_leaves : List (List (List ℕ))
  pub digests : List (List ℕ)

-- the value of what is kept so
abbrev pub prepared_with : Geometry → ReadCapValue → List ℕ → List (List ℕ)
    → List (List (List ℕ)) → List (List ℕ) → PreparedFile
prepared_with geometry cap extension_block leaves block_leaves digests = record {
  geometry = geometry;
  cap = cap;
  extension_block = extension_block;
  leaves = leaves;
  block_leaves = block_leaves;
  digests = digests;
}

-- the same without the cap, but for its key
abbrev pub kept_in : PreparedFile → KeptFile
kept_in p = record {
  geometry = p.geometry;
  key = Some p.cap.key;
  extension_block = p.extension_block;
  leaves = p.leaves;
  block_leaves = p.block_leaves;
  digests = p.digests;
}

-- what is kept of a ciphertext and its key: the cap and the digests are those of its encoding
abbrev pub prepared_by : Geometry → List ℕ → List ℕ → PreparedFile
prepared_by g key ciphertext =
    let segments = segments_of g ciphertext in
    let encoding = ciphertext_encoding g key ciphertext in
    record {
      geometry = g;
      cap = encoding.cap;
      extension_block = ueb_text (extension_block_contents g ciphertext segments);
      leaves = segment_hashes segments;
      block_leaves =
          map (λ i. block_hashes (blocks_of g.needed i segments)) (range_with_len 0 g.total);
      digests = map share_digest encoding.shares;
    }

-- the geometry and the key of a file
abbrev pub geometry_for : List ℕ → Parameters → Geometry
geometry_for file p = geometry_of (length file) p.needed p.total p.max_segment

abbrev pub key_for : List ℕ → List ℕ → Parameters → List ℕ
key_for file secret p =
    convergent_key_of p.needed p.total (geometry_for file p).segment_size secret file

-- what is kept of a file
abbrev pub prepared_of : List ℕ → List ℕ → Parameters → PreparedFile
prepared_of file secret p =
    let key = key_for file secret p in prepared_by (geometry_for file p) key (xored key file)

-- the length of each share
abbrev pub share_length : PreparedFile → ℕ
share_length p = kept_length (kept_in p)

-- A source of so many bytes was read twice, and both times it had the same key. What is kept is of
-- what the second pass brought.
pub record IsPreparedFrom {S : Type 0} (gives : S → ℕ → List ℕ → S → Type 0) (size : ℕ) (old : S)
    (secret : List ℕ) (p : Parameters) (prepared : PreparedFile) (new : S) : Type 0 where
  pub first : List ℕ
  pub file : List ℕ
  pub reading : IsReadTwice gives size old first file new
  pub one_key : key_for first secret p ≡ key_for file secret p
  pub is : prepared ≡ prepared_of file secret p

-- a source of so many bytes was read twice, and the two passes had two keys
pub record HadTwoKeys {S : Type 0} (gives : S → ℕ → List ℕ → S → Type 0) (size : ℕ) (old : S)
    (key : List ℕ → List ℕ) (new : S) : Type 0 where
  pub first : List ℕ
  pub second : List ℕ
  pub reading : IsReadTwice gives size old first second new
  pub two_keys : key first ≢ key second

-- two passes over a source differ: it ended early, or they had two keys
abbrev pub PassesDiffer : {S : Type 0} → (S → ℕ → List ℕ → S → Type 0) → ℕ → S
    → (List ℕ → List ℕ) → S → Type 0
PassesDiffer gives size old key new =
    HasEndedEarly gives old size new ⊎ HadTwoKeys gives size old key new
