-- What is taken of the readers of a file, and why it is refused.
use Rattle.std.specs.Prelude.{◌≡◌, ◌≢◌, ◌⊎◌, ℕ, List, ◌∷◌, Some, length}
use Rattle.merkle.specs.Partial.{IsNotConsistent, PartialState}
use Rattle.share_verify.specs.declared.check.Check.{Check}
use Rattle.share_verify.specs.declared.check.Check.TheVariants as checks
use Rattle.download_parts.specs.Plan.{nodes_of}
use Rattle.download_parts.specs.declared.part.Part.{Part}
use Rattle.download_parts.specs.declared.part.Part.TheVariants.{ShareHashes, BlockTree}
use Rattle.download_parts.specs.declared.part.Part.TheVariants.{CiphertextTree, Data}
use Rattle.download_parts.specs.Offers.{nodes_offered}
use Rattle.download_parts.specs.Refusal.{IsHashesRefusal}
use Rattle.download_supply.specs.Taking.{RefutesPiece}
use Rattle.download_supply.specs.Upper.{KnowsTops}
use Rattle.download_segments.specs.State.{HandoutState}
use Rattle.download_file.specs.State.{FileState, IsReader, ReaderState}
use Rattle.download_file.specs.declared.reader.Waiting.{Waiting}

-- Bytes that have the length of a part of the plan for the segments `a` to before `b` do not pass
-- the check of what they are part of.
abbrev pub RefutesPart : HandoutState → ℕ → ℕ → ReaderState → Part → List ℕ → Check → Type 0
RefutesPart h a b r ShareHashes bytes check = IsHashesRefusal h.trees r.share bytes check
RefutesPart h a b r (BlockTree p) bytes check =
    (check ≡ checks.BlockTree) × RefutesPiece r.supply p bytes
RefutesPart h a b r (CiphertextTree p) bytes check = (check ≡ checks.CiphertextTree)
    × IsNotConsistent h.trees.ciphertext (nodes_offered (nodes_of h.geometry a b p) bytes)
RefutesPart h a b r (Data i) bytes check = ⊥

-- The bytes are refused as the first part that waits of a reader: they have another length than
-- was asked, which fails the check of the layout, or they do not pass the part's check.
pub record IsRefused (f : FileState) (reader : ℕ) (bytes : List ℕ) (check : Check) : Type 0 where
  pub r : ReaderState
  pub there : IsReader f reader r
  pub first : Waiting
  pub others : List Waiting
  pub waits : r.waiting ≡ first ∷ others
  pub why : ((check ≡ checks.Layout) × (length bytes ≢ first.wanted.read.length))
      ⊎ ((length bytes ≡ first.wanted.read.length)
      × RefutesPart f.handout f.first f.end r first.wanted.part bytes check)

-- what proves a part that is read of a reader is known
abbrev pub KnowsProof : HandoutState → ℕ → ℕ → ReaderState → Part → Type 0
KnowsProof h a b r (BlockTree p) = (t : PartialState) → r.supply.tree ≡ Some t
    → KnowsTops t (nodes_of r.supply.geometry r.supply.first r.supply.end p)
KnowsProof h a b r (CiphertextTree p) = KnowsTops h.trees.ciphertext (nodes_of h.geometry a b p)
KnowsProof h a b r part = Unit {0}
