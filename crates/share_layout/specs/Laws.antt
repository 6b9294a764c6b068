-- Laws of shares.
use Rattle.std.specs.Prelude.{◌≡◌, ℕ, ◌<◌, List, ◌++◌}
use Rattle.merkle.specs.Tree.{height, needed_numbers}
use Rattle.share_layout.specs.Geometry.{Geometry, IsGeometry}
use Rattle.share_layout.specs.Layout.{header, layout_of, offsets_of}
use Rattle.share_layout.specs.Share.{CarriesNumbers, HaveLengths, IsShare, Sections}
use Rattle.share_layout.specs.Offsets.{HasOwnOffsets, HasVersion, LocatesUeb, offsets_in}
use Rattle.share_layout.specs.Reading.{HasHeader}
use Rattle.share_layout.specs.Writing.{ending}

-- bytes are a share in one way
abbrev pub HasOneReading : Type 0
HasOneReading = (g : Geometry) (num other : ℕ) (bytes : List ℕ) (s t : Sections)
    → IsShare g num bytes s → IsShare g other bytes t → s ≡ t

-- bytes that begin with a geometry's header tell the geometry's offsets
abbrev pub TellTheirOffsets : Type 0
TellTheirOffsets = (g : Geometry) (bytes : List ℕ) → IsGeometry g → HasHeader g bytes
    → HasVersion (layout_of g) bytes × HasOwnOffsets bytes × (offsets_in bytes ≡ offsets_of g)

-- a share's own header leads to its extension block
abbrev pub LocateTheirBlocks : Type 0
LocateTheirBlocks = (g : Geometry) (num : ℕ) (bytes : List ℕ) (s : Sections)
    → IsGeometry g → IsShare g num bytes s → LocatesUeb bytes s.extension_block

-- What a share writer writes for five sections, one after another and cut up at will, and then for
-- the extension block, is the share of the number that the share hashes carry.
abbrev pub SectionsMakeShare : Type 0
SectionsMakeShare = (g : Geometry) (num : ℕ) (s : Sections) → HaveLengths g s
    → num < g.total → CarriesNumbers (needed_numbers (height g.total) num) s.share_hashes
    → IsShare g num
    (header g ++ (s.blocks ++ s.unused ++ s.ciphertext_tree ++ s.block_tree ++ s.share_hashes)
    ++ ending g s.extension_block) s
