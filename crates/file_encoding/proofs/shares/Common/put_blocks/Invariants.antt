use Rattle.std.proofs.Common.{◌≡◌, ℕ, List, ◌-◌, ◌*◌, ◌++◌, drop, map}
use Rattle.share_layout.specs.Geometry.{Geometry, segment_count}
use Rattle.share_layout.specs.Pieces.{pieces}
use Rattle.share_verify.specs.Pieces.{joined}
use Rattle.file_encoding.specs.Blocks.{padded_block, padded_blocks}
use Rattle.file_encoding.specs.Drafts.{DraftState}
use Rattle.file_encoding.proofs.shares.Common.put_blocks.Given as goal

-- the blocks from one on
abbrev pub rest_of : Geometry → ℕ → List ℕ → ℕ → List (List ℕ)
rest_of g i text number = map (padded_block g.needed i) (pieces (segment_count g - number) g.segment_size (drop (number * g.segment_size) text))

-- what is written so far, and the blocks of the rest
pub record Written (g : Geometry) (text : List ℕ) (before now : DraftState) (number : ℕ) : Type 0 where
  pub geometry : now.geometry ≡ before.geometry
  pub same : now.number ≡ before.number
  pub blocks : before.bytes ++ joined (padded_blocks g before.number text) ≡ now.bytes ++ joined (rest_of g before.number text number)

abbrev pub invariant-loop-number : goal.invariant-loop-number
invariant-loop-number l = Written l.self.geometry.now l.self.padded.now l.initial.draft l.draft l.number
