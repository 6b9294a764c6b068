-- The text of an extension block, and which bytes are one.
use Rattle.std.specs.Prelude.{◌≡◌, ℕ, ◌≤◌, List, length, map, codes, decimal, Some}
use Rattle.ueb.specs.declared.key.Key.{Key}
use Rattle.ueb.specs.declared.key.Key.TheVariants.{CodecName, CodecParams, CrypttextHash}
use Rattle.ueb.specs.declared.key.Key.TheVariants.{CrypttextRootHash, NeededShares, NumSegments}
use Rattle.ueb.specs.declared.key.Key.TheVariants.{SegmentSize, ShareRootHash, Size}
use Rattle.ueb.specs.declared.key.Key.TheVariants.{TailCodecParams, TotalShares}
use Rattle.ueb.specs.Limits.{max_length}
use Rattle.ueb.specs.Shape.{Contents, AreContents, codec_params, rounded_up}
use Rattle.ueb.specs.Shape.{num_segments, tail_size}
use Rattle.ueb.specs.Key.{key_name, known_keys}
use Rattle.ueb.specs.Fields.{Field, fields_text, AreFields, value_of}

-- what stands under a key
unfoldable pub value_text : Contents → Key → List ℕ
value_text c CodecName = codes "crs"
value_text c CodecParams = codec_params c.segment_size c.needed_shares c.total_shares
value_text c CrypttextHash = c.crypttext_hash
value_text c CrypttextRootHash = c.crypttext_root_hash
value_text c NeededShares = decimal c.needed_shares
value_text c NumSegments = decimal (num_segments c.size c.segment_size)
value_text c SegmentSize = decimal c.segment_size
value_text c ShareRootHash = c.share_root_hash
value_text c Size = decimal c.size
value_text c TailCodecParams =
    codec_params (rounded_up (tail_size c.size c.segment_size) c.needed_shares)
    c.needed_shares c.total_shares
value_text c TotalShares = decimal c.total_shares

-- one of the eleven fields
abbrev pub known_field : Contents → Key → Field
known_field c key = record { key = key_name key; value = value_text c key }

-- the eleven fields, in the order of their keys
unfoldable pub ueb_text : Contents → List ℕ
ueb_text c = fields_text (map (known_field c) known_keys)

-- The bytes are an extension block with these contents: fields in their order, among them the
-- eleven known ones.
pub record IsUeb (bytes : List ℕ) (c : Contents) : Type 0 where
  pub fields : List Field
  pub are_fields : AreFields bytes fields
  pub known : (key : Key) → value_of (key_name key) fields ≡ Some (value_text c key)
  pub short : length bytes ≤ max_length
  pub contents : AreContents c
