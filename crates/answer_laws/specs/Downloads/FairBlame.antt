-- Who is blamed for a part or a block of a share had sent other bytes than the share has.
use Rattle.std.specs.Prelude.{◌≡◌, ℕ, List, [], slice_index_or, Contains}
use Rattle.tagged_hash.specs.Clash.{HasNoClashIn}
use Rattle.merkle.specs.Inputs.{tree_inputs}
use Rattle.merkle.specs.Tree.{tree_root}
use Rattle.request_record.specs.declared.requests.Request.{Request}
use Rattle.ueb.specs.Shape.{Contents}
use Rattle.share_layout.specs.Geometry.{Geometry}
use Rattle.share_layout.specs.Share.{Sections}
use Rattle.download_shares.specs.declared.holding.Blame.{Blame}
use Rattle.download_file.specs.State.{FileState}
use Rattle.download_file.specs.Tested.{IsTested}
use Rattle.download_core.specs.ReadingCauses.{IsBlockFault, IsPartFault}
use Rattle.answer_laws.specs.Downloads.Answers.{AnsweredOther}
use Rattle.answer_laws.specs.Downloads.OwnReaders.{IsOwnShare, own_leaves}

-- all of these hash inputs are of a kind
abbrev pub AreOf : (List ℕ → Type 0) → List (List ℕ) → Type 0
AreOf IsOne inputs = (input : List ℕ) → Contains inputs input → IsOne input

-- A share of a file with these contents of its extension block: it has nodes of the trees with the
-- roots that they tell, and what is hashed for these and for its block tree is of a kind.
pub record IsShareOf (IsOne : List ℕ → Type 0) (g : Geometry) (u : Contents) (num : ℕ)
    (share : List ℕ) (s : Sections) (segments shares : List (List ℕ)) : Type 0 where
  pub own : IsOwnShare g num share s segments shares
  pub share_root : u.share_root_hash ≡ tree_root shares
  pub ciphertext_root : u.crypttext_root_hash ≡ tree_root segments
  pub leaf : slice_index_or shares num [] ≡ tree_root (own_leaves g s)
  pub share_tree : AreOf IsOne (tree_inputs shares)
  pub ciphertext_tree : AreOf IsOne (tree_inputs segments)
  pub block_tree : AreOf IsOne (tree_inputs (own_leaves g s))

-- what was hashed to test what was read of the file is of a kind
abbrev pub AreTestsOf : (List ℕ → Type 0) → List Request → FileState → Type 0
AreTestsOf IsOne entries f = (input : List ℕ) → IsTested entries f input → IsOne input

-- without a clash, who is blamed for a part sent other bytes
abbrev pub PartsAreBlamedFairlyIn : (List ℕ → Type 0) → Type 0
PartsAreBlamedFairlyIn IsOne = HasNoClashIn IsOne
    → (entries : List Request) (f : FileState) (b : Blame) (share : List ℕ) (s : Sections)
    (segments shares : List (List ℕ)) → AreTestsOf IsOne entries f
    → IsShareOf IsOne f.handout.geometry f.handout.ueb b.share share s segments shares
    → IsPartFault entries f b → AnsweredOther entries b.server b.share share

-- without a clash, who is blamed for a block sent other bytes
abbrev pub BlocksAreBlamedFairlyIn : (List ℕ → Type 0) → Type 0
BlocksAreBlamedFairlyIn IsOne = HasNoClashIn IsOne
    → (entries : List Request) (f : FileState) (b : Blame) (share : List ℕ) (s : Sections)
    (segments shares : List (List ℕ)) → AreTestsOf IsOne entries f
    → IsShareOf IsOne f.handout.geometry f.handout.ueb b.share share s segments shares
    → IsBlockFault entries f b → AnsweredOther entries b.server b.share share

-- laws: so it is where all that is hashed is in a list
abbrev pub PartsAreBlamedFairly : Type 0
PartsAreBlamedFairly = (inputs : List (List ℕ)) → PartsAreBlamedFairlyIn (Contains inputs)

abbrev pub BlocksAreBlamedFairly : Type 0
BlocksAreBlamedFairly = (inputs : List (List ℕ)) → BlocksAreBlamedFairlyIn (Contains inputs)
