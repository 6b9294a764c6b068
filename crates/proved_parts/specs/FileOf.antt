-- What a cap says of a file: which ciphertext is its own, whoever sends it.
use Rattle.std.specs.Prelude.{◌≡◌, ℕ, List, length, map}
use Rattle.aes_ctr.specs.CounterMode.{xored}
use Rattle.merkle.specs.Tree.{tree_root}
use Rattle.tagged_hash.specs.TaggedHash.{tagged_hash}
use Rattle.tagged_hash.specs.declared.tag.Tag.TheVariants.{CiphertextSegment}
use Rattle.cap_text.specs.Cap.{ReadCapValue, verify_cap_of}
use Rattle.ueb.specs.Shape.{Contents}
use Rattle.share_layout.specs.Pieces.{segments_of}
use Rattle.share_verify.specs.CapBlock.{IsUebFor, geometry_by}

-- the leaves of the ciphertext tree
abbrev pub segment_hashes : List (List ℕ) → List (List ℕ)
segment_hashes segments = map (tagged_hash CiphertextSegment) segments

-- this is the cap's file, and this its ciphertext: the segments' hashes lead to the root in the
-- cap's extension block
pub record IsFileOf (cap : ReadCapValue) (extension_block : List ℕ) (u : Contents)
    (ciphertext file : List ℕ) : Type 0 where
  pub block : IsUebFor (verify_cap_of cap) extension_block u
  pub size : length ciphertext ≡ cap.size
  pub root : tree_root (segment_hashes (segments_of (geometry_by u) ciphertext))
      ≡ u.crypttext_root_hash
  pub decrypted : file ≡ xored cap.key ciphertext
