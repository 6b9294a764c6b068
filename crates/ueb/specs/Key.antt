-- The known keys, and the order in which they are told.
use Rattle.std.specs.Prelude.{ℕ, ◌<◌, List, [], ◌∷◌, codes}
use Rattle.ueb.specs.declared.key.Key.{Key}
use Rattle.ueb.specs.declared.key.Key.TheVariants.{CodecName, CodecParams, CrypttextHash}
use Rattle.ueb.specs.declared.key.Key.TheVariants.{CrypttextRootHash, NeededShares, NumSegments}
use Rattle.ueb.specs.declared.key.Key.TheVariants.{SegmentSize, ShareRootHash, Size}
use Rattle.ueb.specs.declared.key.Key.TheVariants.{TailCodecParams, TotalShares}

-- a key as it stands in the block
unfoldable pub key_name : Key → List ℕ
key_name CodecName = codes "codec_name"
key_name CodecParams = codes "codec_params"
key_name CrypttextHash = codes "crypttext_hash"
key_name CrypttextRootHash = codes "crypttext_root_hash"
key_name NeededShares = codes "needed_shares"
key_name NumSegments = codes "num_segments"
key_name SegmentSize = codes "segment_size"
key_name ShareRootHash = codes "share_root_hash"
key_name Size = codes "size"
key_name TailCodecParams = codes "tail_codec_params"
key_name TotalShares = codes "total_shares"

-- all keys in their order, which is that of their bytes
abbrev pub known_keys : List Key
known_keys =
    CodecName ∷ CodecParams ∷ CrypttextHash ∷ CrypttextRootHash ∷ NeededShares ∷ NumSegments
    ∷ SegmentSize ∷ ShareRootHash ∷ Size ∷ TailCodecParams ∷ TotalShares ∷ []

-- a key's position among them, from 0 on
abbrev pub position : Key → ℕ
position CodecName = 0
position CodecParams = 1
position CrypttextHash = 2
position CrypttextRootHash = 3
position NeededShares = 4
position NumSegments = 5
position SegmentSize = 6
position ShareRootHash = 7
position Size = 8
position TailCodecParams = 9
position TotalShares = 10

-- the first key in order of which something holds
pub record IsFirst (P : Key → Type 0) (key : Key) : Type 0 where
  pub holds : P key
  pub before : (other : Key) → position other < position key → ¬ P other
