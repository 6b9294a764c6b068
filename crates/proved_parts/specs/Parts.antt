-- What a cap proves of a part of its file: an extension block and one segment with the path of its
-- hash.
use Rattle.std.specs.Prelude.{◌≡◌, ℕ, ◌<◌, List, length}
use Rattle.merkle.specs.Path.{LeadsBy}
use Rattle.tagged_hash.specs.TaggedHash.{tagged_hash}
use Rattle.tagged_hash.specs.declared.tag.Tag.TheVariants.{CiphertextSegment}
use Rattle.cap_text.specs.Cap.{VerifyCapValue}
use Rattle.ueb.specs.Shape.{Contents}
use Rattle.share_layout.specs.Geometry.{segment_count}
use Rattle.share_layout.specs.Pieces.{segment_length}
use Rattle.share_verify.specs.CapBlock.{IsUebFor, geometry_by}
use Rattle.merkle.specs.Inputs.{AreHashes}

-- This is the segment with this number of the file of this extension block: it has that segment's
-- length, and by these siblings its hash leads to the root of the ciphertext tree.
pub record IsSegmentBy (u : Contents) (number : ℕ) (segment : List ℕ)
    (siblings : List (List ℕ)) : Type 0 where
  pub there : number < segment_count (geometry_by u)
  pub size : length segment ≡ segment_length (geometry_by u) number
  pub hashes : AreHashes siblings
  pub path : LeadsBy (segment_count (geometry_by u)) u.crypttext_root_hash number
      (tagged_hash CiphertextSegment segment) siblings

-- it is the segment with this number of the cap's file, and the cap proves it: the extension block
-- is the cap's
pub record IsPartOf (cap : VerifyCapValue) (extension_block : List ℕ) (u : Contents) (number : ℕ)
    (segment : List ℕ) (siblings : List (List ℕ)) : Type 0 where
  pub block : IsUebFor cap extension_block u
  pub by : IsSegmentBy u number segment siblings
