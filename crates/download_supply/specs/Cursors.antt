-- Cursors in the parts of a plan: of each section, and of a tree of each level, the parts before
-- the cursor are passed.
use Rattle.std.specs.Prelude.{◌≡◌, ℕ, ◌+◌, ◌<◌, List, [], ◌∷◌, length, slice_index_or}
use Rattle.std.specs.Prelude.{slice_set, true, false}
use Rattle.download_parts.specs.declared.part.NodePiece.{NodePiece}
use Rattle.download_parts.specs.declared.part.Part.{Part}
use Rattle.download_parts.specs.declared.part.Part.TheVariants.{ShareHashes, BlockTree}
use Rattle.download_parts.specs.declared.part.Part.TheVariants.{CiphertextTree, Data}
use Rattle.download_supply.specs.declared.cursors.Cursors.{Cursors}

-- no part is passed
abbrev pub no_parts : Cursors
no_parts = record {
  share_hashes = false;
  block_tree = 0 ∷ 0 ∷ 0 ∷ [];
  ciphertext_tree = 0 ∷ 0 ∷ 0 ∷ [];
  data_piece = 0;
}

-- the cursor of a level of a tree
abbrev pub cursor_at : List ℕ → ℕ → ℕ
cursor_at levels level = slice_index_or levels level 0

-- the number of a part in its section or level
abbrev pub index_of : Part → ℕ
index_of ShareHashes = 0
index_of (BlockTree p) = p.index
index_of (CiphertextTree p) = p.index
index_of (Data i) = i

-- the part is passed
abbrev pub IsPassed : Cursors → Part → Type 0
IsPassed c ShareHashes = c.share_hashes ≡ true
IsPassed c (BlockTree p) = p.index < cursor_at c.block_tree p.level
IsPassed c (CiphertextTree p) = p.index < cursor_at c.ciphertext_tree p.level
IsPassed c (Data i) = i < c.data_piece

-- the piece is the next of its level
pub record IsNextPiece (levels : List ℕ) (p : NodePiece) : Type 0 where
  pub level : p.level < length levels
  pub index : p.index ≡ cursor_at levels p.level

-- The part is the next of its section or level. The share hashes come before the block tree, whose
-- root they tell.
abbrev pub IsNext : Cursors → Part → Type 0
IsNext c ShareHashes = c.share_hashes ≡ false
IsNext c (BlockTree p) = (c.share_hashes ≡ true) × IsNextPiece c.block_tree p
IsNext c (CiphertextTree p) = IsNextPiece c.ciphertext_tree p
IsNext c (Data i) = i ≡ c.data_piece

-- the cursors once the piece, or the part, is passed too
abbrev pub piece_passed : List ℕ → NodePiece → List ℕ
piece_passed levels p = slice_set levels p.level (p.index + 1)

abbrev pub passed : Cursors → Part → Cursors
passed c ShareHashes = record c { share_hashes = true }
passed c (BlockTree p) = record c { block_tree = piece_passed c.block_tree p }
passed c (CiphertextTree p) = record c { ciphertext_tree = piece_passed c.ciphertext_tree p }
passed c (Data i) = record c { data_piece = i + 1 }

-- these parts, one after another, lead from the first cursors to the last: each is the next one
abbrev pub LeadOn : Cursors → List Part → Cursors → Type 0
LeadOn from [] to = from ≡ to
LeadOn from (part ∷ parts) to = IsNext from part × LeadOn (passed from part) parts to
