-- What the definitions of an encoding say of one that is made segment by segment.
use Rattle.std.specs.Prelude.{◌≡◌, ℕ, List, ◌++◌, length}
use Rattle.aes_ctr.specs.CounterMode.{xored}
use Rattle.tagged_hash.specs.TaggedHash.{share_digest, tagged_hash}
use Rattle.tagged_hash.specs.declared.tag.Tag.TheVariants.{WholeShare}
use Rattle.share_layout.specs.Geometry.{Geometry, IsGeometry}
use Rattle.share_layout.specs.Pieces.{segments_of}
use Rattle.file_encoding.specs.Encoding.{share_leaves, share_of}
use Rattle.share_gathering.specs.Gathered.{Gathered, IsGathered, behind_blocks, gathered}
use Rattle.share_gathering.specs.Gathered.{gathered_none}

-- a law: what is gathered of a file segment by segment is of its encoding
abbrev pub OneByOne : Type 0
OneByOne = (g : Geometry) (key file : List ℕ) → IsGeometry g → length file ≡ g.size
    → IsGathered g (xored key file) (gathered g key 0 (segments_of g file) (gathered_none g))

-- a law: the digest of a share is that of what its hasher was given, with what stands behind the
-- blocks
abbrev pub DigestsInOrder : Type 0
DigestsInOrder = (g : Geometry) (ciphertext extension_block : List ℕ) (s : Gathered) (i : ℕ)
    → IsGathered g ciphertext s
    → share_digest (share_of g (segments_of g ciphertext) extension_block i)
    ≡ tagged_hash WholeShare (s.written i ++ behind_blocks g s.leaves (s.block_leaves i)
    (share_leaves g (segments_of g ciphertext)) extension_block i)
