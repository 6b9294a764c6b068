-- What a share has to be for a verify cap, and the first fault of one that is not.
use Rattle.std.specs.Prelude.{◌≡◌, ℕ, List, length, replicate}
use Rattle.cap_text.specs.Cap.{VerifyCapValue}
use Rattle.tagged_hash.specs.TaggedHash.{tagged_hash}
use Rattle.tagged_hash.specs.declared.tag.Tag.TheVariants.{ExtensionBlock}
use Rattle.ueb.specs.Reading.{IsRefused}
use Rattle.ueb.specs.Shape.{Contents}
use Rattle.ueb.specs.declared.block.Expect.{Expect}
use Rattle.ueb.specs.declared.error.UebError.{UebError}
use Rattle.share_layout.specs.Geometry.{block_size, segment_count}
use Rattle.share_layout.specs.Offsets.{LocatesUeb}
use Rattle.share_layout.specs.Reading.{IsLocateFault, IsReadFault}
use Rattle.share_layout.specs.Share.{IsShare, Sections}
use Rattle.share_layout.specs.declared.error.LayoutError.{LayoutError}
use Rattle.share_verify.specs.Pieces.{block_hashes, pieces}
use Rattle.share_verify.specs.CapBlock.{IsUebFor, geometry_by}
use Rattle.share_verify.specs.ShareHashes.{LeadsByEntries, entries_in}
use Rattle.share_verify.specs.TreeSection.{HoldsTree, IsTreeSection, IsTreeWithRoot, root_in}
use Rattle.share_verify.specs.declared.fault.ShareFault.{ShareFault}
use Rattle.share_verify.specs.declared.fault.ShareFault.TheVariants.{Layout, OtherUeb, Ueb, Unused}
use Rattle.share_verify.specs.declared.fault.ShareFault.TheVariants.{CiphertextTree, BlockTree}
use Rattle.share_verify.specs.declared.fault.ShareFault.TheVariants.{ShareHashes, Data}

-- the share's own header leads to the cap's extension block, and the bytes are share `num` of a
-- file with that block's geometry
pub record ReadsAs (cap : VerifyCapValue) (num : ℕ) (share : List ℕ) (u : Contents)
    (s : Sections) : Type 0 where
  pub located : LocatesUeb share s.extension_block
  pub ueb : IsUebFor cap s.extension_block u
  pub layout : IsShare (geometry_by u) num share s

-- the section of the tree that is no longer used holds zeros
abbrev pub HasZeros : Sections → Type 0
HasZeros s = s.unused ≡ replicate (length s.unused) 0

-- the ciphertext tree is one over a leaf for each segment, with the root that the extension block
-- tells
abbrev pub HasCiphertextTree : Contents → Sections → Type 0
HasCiphertextTree u s =
    IsTreeWithRoot (segment_count (geometry_by u)) u.crypttext_root_hash s.ciphertext_tree

-- the block tree is one over a leaf for each segment
abbrev pub HasBlockTree : Contents → Sections → Type 0
HasBlockTree u s = IsTreeSection (segment_count (geometry_by u)) s.block_tree

-- the share hashes lead from the root of the block tree, as leaf `num`, to the root that the
-- extension block tells
abbrev pub HasShareHashes : Contents → ℕ → Sections → Type 0
HasShareHashes u num s =
    LeadsByEntries u.total_shares u.share_root_hash num
    (root_in s.block_tree) (entries_in s.share_hashes)

-- the block tree is the one over the hashes of the blocks
abbrev pub HasBlocks : Contents → Sections → Type 0
HasBlocks u s =
    let g = geometry_by u in
    HoldsTree s.block_tree (block_hashes (pieces (segment_count g) (block_size g) s.blocks))

-- the sections are as they have to be
pub record AreSound (u : Contents) (num : ℕ) (s : Sections) : Type 0 where
  pub unused : HasZeros s
  pub ciphertext_tree : HasCiphertextTree u s
  pub block_tree : HasBlockTree u s
  pub share_hashes : HasShareHashes u num s
  pub blocks : HasBlocks u s

-- the share of this number passes every check: it reads as these sections under an extension block
-- with these contents, and they are as they have to be
pub record IsSound (cap : VerifyCapValue) (num : ℕ) (share : List ℕ) (u : Contents)
    (s : Sections) : Type 0 where
  pub reads : ReadsAs cap num share u s
  pub sections : AreSound u num s

abbrev pub IsSoundShare : VerifyCapValue → ℕ → List ℕ → Type 0
IsSoundShare cap num share = (u : Contents) × (s : Sections) × IsSound cap num share u s

-- a fault of the layout, which is as `IsFault` says
abbrev pub IsLayoutFault : (LayoutError → Type 0) → ShareFault → Type 0
IsLayoutFault IsFault (Layout error) = IsFault error
IsLayoutFault IsFault fault = ⊥

-- the extension block is refused by a reader that expects what the cap says
pub record RefusesUeb (cap : VerifyCapValue) (extension_block : List ℕ)
    (error : UebError) : Type 0 where
  pub expect : Expect
  pub needed : expect.needed ≡ cap.needed
  pub total : expect.total ≡ cap.total
  pub size : expect.size ≡ cap.size
  pub refused : IsRefused extension_block expect error

-- why bytes are not the cap's extension block: the first fault
abbrev pub IsUebFault : VerifyCapValue → List ℕ → ShareFault → Type 0
IsUebFault cap extension_block OtherUeb =
    ¬ (tagged_hash ExtensionBlock extension_block ≡ cap.ueb_hash)
IsUebFault cap extension_block (Ueb error) =
    (tagged_hash ExtensionBlock extension_block ≡ cap.ueb_hash)
    × RefusesUeb cap extension_block error
IsUebFault cap extension_block fault = ⊥

-- why the bytes do not read as share `num`, step by step: the first fault
pub data IsReadingFault (cap : VerifyCapValue) (num : ℕ) (share : List ℕ)
    (fault : ShareFault) : Type 0 where
  -- no extension block is found
  not_located : IsLayoutFault (IsLocateFault share) fault → IsReadingFault cap num share fault
  -- the extension block is not the cap's
  no_ueb : (extension_block : List ℕ) → LocatesUeb share extension_block
      → IsUebFault cap extension_block fault
      → IsReadingFault cap num share fault
  -- it is no share of this number under the extension block's geometry
  no_share : (extension_block : List ℕ) (u : Contents) → LocatesUeb share extension_block
      → IsUebFor cap extension_block u
      → IsLayoutFault (IsReadFault (geometry_by u) num share) fault
      → IsReadingFault cap num share fault

-- why the sections are not sound: the first fault
abbrev pub IsSectionFault : Contents → ℕ → Sections → ShareFault → Type 0
IsSectionFault u num s Unused = ¬ HasZeros s
IsSectionFault u num s CiphertextTree = HasZeros s × ¬ HasCiphertextTree u s
IsSectionFault u num s BlockTree = HasZeros s × HasCiphertextTree u s × ¬ HasBlockTree u s
IsSectionFault u num s ShareHashes =
    HasZeros s × HasCiphertextTree u s × HasBlockTree u s × ¬ HasShareHashes u num s
IsSectionFault u num s Data =
    HasZeros s × HasCiphertextTree u s × HasBlockTree u s × HasShareHashes u num s × ¬ HasBlocks u s
IsSectionFault u num s fault = ⊥

-- why the share of this number does not pass: its first fault
pub data IsFirstFault (cap : VerifyCapValue) (num : ℕ) (share : List ℕ)
    (fault : ShareFault) : Type 0 where
  -- it does not read as one
  not_read : IsReadingFault cap num share fault → IsFirstFault cap num share fault
  -- it does, and a section is not as it has to be
  not_sound : (u : Contents) (s : Sections) → ReadsAs cap num share u s
      → IsSectionFault u num s fault
      → IsFirstFault cap num share fault
