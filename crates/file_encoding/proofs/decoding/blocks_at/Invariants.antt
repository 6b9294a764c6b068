use Rattle.std.proofs.Common.{◌≡◌, ℕ, List, map, take}
use Rattle.share_layout.specs.Geometry.{Geometry}
use Rattle.share_layout.specs.Pieces.{block_at}
use Rattle.file_encoding.proofs.decoding.blocks_at.Given as goal

pub record HaveCut (g : Geometry) (number : ℕ) (numbers these : List ℕ) (blocks cut : List (List ℕ)) (index : ℕ) : Type 0 where
  pub numbered : these ≡ take index numbers
  pub cut_so : cut ≡ map (block_at g number) (take index blocks)

abbrev pub invariant-loop-share : goal.invariant-loop-share
invariant-loop-share l =
    HaveCut l.geometry l.number (map (λ s. s.0) l.blocks) (map (λ s. s.0) l.these.items) (map (λ s. s.1.now) l.blocks) (map (λ s. s.1.now) l.these.items) l.share-index
