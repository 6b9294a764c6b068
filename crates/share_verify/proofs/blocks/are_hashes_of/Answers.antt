use Rattle.std.proofs.Common.{rules, ◌≡◌, ◌+◌, ◌-◌, ◌*◌, ◌<◌, ◌≤◌, ℕ, List, [], length, take, drop, get_or, sym, ap, ◌∙◌, arith, inl, inr, refl}
use Rattle.std.proofs.lemmas.Bool.{cases_lt}
use Rattle.std.proofs.lemmas.Simd.{get_or-chunk, length-chunk}
use Rattle.tagged_hash.specs.TaggedHash.{tagged_hash}
use Rattle.tagged_hash.specs.declared.tag.Tag.TheVariants.{Block}
use Rattle.share_verify.specs.Leaves.{AreBlockHashes}
use Rattle.share_verify.proofs.HashedLemmas.{hash_behind}
use Rattle.share_verify.proofs.blocks.are_hashes_of.Goals as goal

-- the leaves from one on, and the blocks from the same position on
module _ (leaves : List (List ℕ)) (size : ℕ) (blocks rest : List ℕ) (first end : ℕ)
    (is : rest ≡ drop (first * size) blocks) (low : first ≤ end) (high : end ≤ length leaves) where
  -- where all leaves are hashes, so are those of the group
  inside : AreBlockHashes leaves size blocks → AreBlockHashes (take (end - first) (drop first leaves)) size rest
  inside all i below =
      let many : length (take (end - first) (drop first leaves)) ≡ end - first = length-chunk first (end - first) leaves (omega arith) in
      get_or-chunk first (end - first) leaves i [] (omega arith) ∙ all (first + i) (omega arith) ∙ sym (hash_behind size blocks rest first is i)

  -- where those of the group are, each of them is
  outside : AreBlockHashes (take (end - first) (drop first leaves)) size rest → (k : ℕ) → first ≤ k → k < end
      → get_or leaves k [] ≡ tagged_hash Block (take size (drop (k * size) blocks))
  outside are k above below =
      let many : length (take (end - first) (drop first leaves)) ≡ end - first = length-chunk first (end - first) leaves (omega arith) in
      let at : first + (k - first) ≡ k = omega arith in
      ap (λ (j : ℕ). get_or leaves j []) (sym at) ∙ sym (get_or-chunk first (end - first) leaves (k - first) [] (omega arith))
      ∙ are (k - first) (omega arith) ∙ hash_behind size blocks rest first is (k - first)
      ∙ ap (λ (j : ℕ). tagged_hash Block (take size (drop (j * size) blocks))) at

pub returns-then-not-are_first_hashes : goal.returns-then-not-are_first_hashes
returns-then-not-are_first_hashes c = (
  λ never. search rules,
  λ all. c.if-not-are_first_hashes.ensures.1
      (inside c.args.leaves.now c.args.block_size c.args.blocks.now c.pieces_from-rest.result.now (8 * c.loop-group.group) c.min-end.result
      c.pieces_from-rest.ensures (omega arith) (omega arith) all),
)

pub loop-group-preserved : goal.loop-group-preserved
loop-group-preserved c k below within =
    elim (cases_lt k (8 * c.loop-group.group)) [
      | inl lt ↦ c.loop-group.invariant k lt within
      | inr ge ↦ outside c.args.leaves.now c.args.block_size c.args.blocks.now c.pieces_from-rest.result.now (8 * c.loop-group.group) c.min-end.result
          c.pieces_from-rest.ensures (omega arith) (omega arith) (c.if-not-are_first_hashes.ensures.0 refl) k ge (omega arith)
    ]
