-- A reader whose server answered with a share's own bytes alone.
use Rattle.std.specs.Prelude.{◌≡◌, ℕ, List, Some, drop, length, take}
use Rattle.request_record.specs.declared.requests.Request.{Request}
use Rattle.merkle.specs.Inputs.{AreHashes}
use Rattle.merkle.specs.Offers.{AreOfTree}
use Rattle.merkle.specs.OneTree.{KnowsTree}
use Rattle.merkle.specs.Partial.{PartialState}
use Rattle.share_layout.specs.Geometry.{Geometry, block_size, segment_count}
use Rattle.share_layout.specs.Share.{IsShare, Sections}
use Rattle.share_verify.specs.Pieces.{block_hashes, pieces}
use Rattle.share_verify.specs.TreeSection.{HoldsTree}
use Rattle.share_verify.specs.declared.check.Check.{Check}
use Rattle.download_parts.specs.Offers.{share_hashes_offered}
use Rattle.download_parts.specs.Trees.{share_leaves}
use Rattle.download_segments.specs.State.{HandoutState}
use Rattle.download_file.specs.Answers.{IsRead}
use Rattle.download_file.specs.Making.{RefutesReader}
use Rattle.download_file.specs.Right.{IsFile}
use Rattle.download_file.specs.State.{FileState, IsHeard, ReaderState}
use Rattle.download_file.specs.Taking.{IsRefused}
use Rattle.answer_laws.specs.Downloads.Answers.{AnswersOwn}
use Rattle.answer_laws.specs.Downloads.OwnParts.{HoldsLeaves}

-- the leaves of a share's block tree: the hashes of its blocks
abbrev pub own_leaves : Geometry → Sections → List (List ℕ)
own_leaves g s = block_hashes (pieces (segment_count g) (block_size g) s.blocks)

-- A share, and the leaves of the ciphertext tree and of the share tree that it has nodes of. The
-- share tree has a leaf for each position.
pub record IsOwnShare (g : Geometry) (num : ℕ) (share : List ℕ) (s : Sections)
    (segments shares : List (List ℕ)) : Type 0 where
  pub is : IsShare g num share s
  pub block_tree : HoldsTree s.block_tree (own_leaves g s)
  pub ciphertext : HoldsLeaves g s.ciphertext_tree segments
  pub count : length shares ≡ share_leaves g.total
  pub hashes : AreHashes shares
  pub carries : AreOfTree shares (share_hashes_offered g.total num s.share_hashes)

-- all that is known of the three trees are nodes of the share's
pub record KnowsOwn (h : HandoutState) (r : ReaderState) (s : Sections)
    (segments shares : List (List ℕ)) : Type 0 where
  pub block_tree : (t : PartialState) → r.supply.tree ≡ Some t
      → KnowsTree t (own_leaves h.geometry s)
  pub ciphertext : KnowsTree h.trees.ciphertext segments
  pub share_tree : KnowsTree h.trees.shares shares

-- a law: own bytes of the first part that waits of a reader that is read are not refused
abbrev pub OwnBytesAreTaken : Type 0
OwnBytesAreTaken = (f : FileState) (reader : ℕ) (bytes : List ℕ) (check : Check) (share : List ℕ)
    (s : Sections) (segments shares : List (List ℕ)) → IsFile f → IsHeard f reader
    → (refused : IsRefused f reader bytes check)
    → IsOwnShare f.handout.geometry refused.r.share share s segments shares
    → KnowsOwn f.handout refused.r s segments shares
    → bytes ≡ take refused.first.wanted.read.length
    (drop refused.first.wanted.read.offset share) → ⊥

-- a law: own blocks are not refuted
abbrev pub OwnBlocksAreRight : Type 0
OwnBlocksAreRight = (entries : List Request) (f : FileState) (reader : ℕ) (share : List ℕ)
    (s : Sections) → IsFile f → IsRead entries f → (wrong : RefutesReader entries f reader)
    → AnswersOwn entries wrong.r.server wrong.r.share share
    → IsShare f.handout.geometry wrong.r.share share s
    → KnowsTree wrong.tree (own_leaves f.handout.geometry s) → ⊥
