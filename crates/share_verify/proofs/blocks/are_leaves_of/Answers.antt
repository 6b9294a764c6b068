use Rattle.std.proofs.Common.{ℕ, List, subst, sym, ◌∙◌, refl}
use Rattle.std.proofs.lemmas.Bool.{true≢false}
use Rattle.std.proofs.lemmas.Bool.Decides.{Decides-eqb}
use Rattle.std.proofs.lemmas.Slice.Eq.{slice_eq-Decides}
use Rattle.share_verify.specs.Leaves.{AreBlockHashes}
use Rattle.share_verify.proofs.HashedLemmas.{first_leaves, leaves_joined, other_leaves}
use Rattle.share_verify.proofs.blocks.are_leaves_of.Goals as goal

pub returns-then-eq : goal.returns-then-eq
returns-then-eq c = λ text begins.
    let leaves : List (List ℕ) = c.args.leaves.now in
    let hashes : List (List ℕ) = c.args.blocks.now.hashes.now in
    let rest = c.args.blocks.now.rest.now in
    let size = c.args.block_size in
    let d = slice_eq-Decides (λ (a b : List ℕ). slice_eq-Decides Decides-eqb a b _ refl) c.split_at.result.0.now hashes c.eq.result c.eq.ensures in
    let each = λ (l : List (List ℕ)). AreBlockHashes l size rest in (
      λ yes. leaves_joined leaves hashes size text rest begins c.requires (sym c.split_at.ensures.front ∙ d.0 c.if-eq.true)
          (subst each c.split_at.ensures.back (c.are_hashes_of.ensures.0 yes)),
      λ all. c.are_hashes_of.ensures.1 (subst each (sym c.split_at.ensures.back) (other_leaves leaves hashes size text rest begins c.requires all)),
    )

pub returns-else-eq : goal.returns-else-eq
returns-else-eq c = λ text begins.
    let leaves : List (List ℕ) = c.args.leaves.now in
    let hashes : List (List ℕ) = c.args.blocks.now.hashes.now in
    let rest = c.args.blocks.now.rest.now in
    let d = slice_eq-Decides (λ (a b : List ℕ). slice_eq-Decides Decides-eqb a b _ refl) c.split_at.result.0.now hashes c.eq.result c.eq.ensures in (
      λ yes. absurd (true≢false (sym yes ∙ c.if-eq.false)),
      λ all. d.1 (c.split_at.ensures.front ∙ first_leaves leaves hashes c.args.block_size text rest begins c.requires all),
    )
