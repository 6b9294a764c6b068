-- A piece of a share, whose blocks are encoded again when it is asked for.
use Rattle.std.specs.Prelude.{◌≡◌, ◌⊎◌, ℕ, ◌<◌, List, [], take, drop, length}
use Rattle.std.specs.Prelude.{slice_index_or}
use Rattle.aes_ctr.specs.CounterMode.{xored}
use Rattle.share_layout.specs.Pieces.{segments_of}
use Rattle.file_encoding.specs.Encoding.{Parameters, blocks_of, encoding_of}
use Rattle.sources.specs.Change.{DiffersFromFile}
use Rattle.share_gathering.specs.Clash.{HaveClash}
use Rattle.share_gathering.specs.KeptFile.{GivesKept, kept_leaves, kept_share}
use Rattle.file_streaming.specs.Prepared.{PreparedFile, geometry_for, kept_in, key_for}
use Rattle.file_streaming.specs.Prepared.{prepared_of}

-- the leaves of a share's block tree that are kept
abbrev pub leaves_of : PreparedFile → ℕ → List (List ℕ)
leaves_of p share = kept_leaves (kept_in p) share

-- the share of this number with these blocks, by what is kept
abbrev pub share_with : PreparedFile → List (List ℕ) → ℕ → List ℕ
share_with p blocks share = kept_share (kept_in p) blocks share

-- the piece of a share from an offset on, each of whose blocks has the hash that is kept: what
-- stands around the blocks is the share's own
abbrev pub GivesPiece : PreparedFile → ℕ → ℕ → List ℕ → Type 0
GivesPiece p share offset bytes = GivesKept (kept_in p) share offset bytes

-- for each file whose hashes are kept, the source brought other bytes than the file's, or ended
-- before the file's end
abbrev pub IsOfNoFile : {S : Type 0} → (S → ℕ → List ℕ → S → Type 0) → PreparedFile → S → S
    → Type 0
IsOfNoFile gives prepared old new = (file secret : List ℕ) (p : Parameters)
    → prepared ≡ prepared_of file secret p → DiffersFromFile gives old file new

-- so many bytes of a share from an offset on
abbrev pub piece_of : List (List ℕ) → ℕ → ℕ → ℕ → List ℕ
piece_of shares share offset len = take len (drop offset (slice_index_or shares share []))

-- the blocks of a share of a file
abbrev pub blocks_for : List ℕ → List ℕ → Parameters → ℕ → List (List ℕ)
blocks_for file secret p share = let g = geometry_for file p in
    blocks_of g.needed share (segments_of g (xored (key_for file secret p) file))

-- a law: for each file whose hashes are kept, the piece is that of its share, or one of the blocks
-- that it is made of is not the share's and has its hash
abbrev pub PiecesAreRight : Type 0
PiecesAreRight = (file secret : List ℕ) (q : Parameters) (p : PreparedFile) (share offset : ℕ)
    (bytes : List ℕ) → p ≡ prepared_of file secret q → share < q.total
    → (given : GivesPiece p share offset bytes)
    → (bytes ≡ piece_of (encoding_of file secret q).shares share offset (length bytes))
    ⊎ HaveClash (blocks_for file secret q share) given.blocks
