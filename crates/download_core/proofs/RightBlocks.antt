-- Right blocks that readers hold lead to the roots that the extension block tells.
use Rattle.std.proofs.Common.{◌≡◌, ◌∙◌, ℕ, ◌<◌, List, length, Option, Some, None, IfSome, option_and_then, refl, subst, ap, arith}
use Rattle.tagged_hash.specs.TaggedHash.{tagged_hash}
use Rattle.tagged_hash.specs.declared.tag.Tag.TheVariants.{Block}
use Rattle.merkle.specs.Partial.{PartialState}
use Rattle.request_record.specs.declared.requests.Request.{Request}
use Rattle.share_layout.specs.Geometry.{Geometry, segment_count}
use Rattle.share_layout.specs.Pieces.{block_length}
use Rattle.share_verify.specs.CapBlock.{geometry_by}
use Rattle.download_parts.specs.Trees.{IsBlockTree, LeadTo, known_leaf, share_leaves}
use Rattle.download_segments.specs.NoCodeWord.{IsBlockIn}
use Rattle.download_segments.proofs.LawLemmas.{blocks_lead_in}
use Rattle.download_file.specs.Answers.{HasRightBlock, IsRead, block_of}
use Rattle.download_file.specs.Right.{IsFile, TellsRoot}
use Rattle.download_file.specs.State.{FileState, IsReader, ReaderState}
use Rattle.download_file.specs.Tested as file
use Rattle.download_file.proofs.EvidenceLemmas.{block_long}
use Rattle.download_file.proofs.GrowLemmas.{has_answers}
use Rattle.download_core.specs.Tested.{IsTested, RightBlocksLead}
use Rattle.download_core.proofs.HashedLemmas.{file_of, right_of}

-- the tree that tells a leaf is there
tree_of : (o : Option PartialState) (number : ℕ) (hash : List ℕ) → option_and_then (λ t. known_leaf t number) o ≡ Some hash
    → (tree : PartialState) × (o ≡ Some tree) × (known_leaf tree number ≡ Some hash)
tree_of None number hash e = absurd cc
tree_of (Some tree) number hash e = (tree, refl, e)

module _ (IsOne : List ℕ → Type 0) (entries : List Request) (f : FileState) (weaker : (input : List ℕ) → file.IsTested entries f input → IsOne input) where
  block_leads : IsFile f → IsRead entries f → (position number : ℕ) (r : ReaderState) → IsReader f position r → HasRightBlock entries r number
      → IsBlockIn IsOne f.handout.ueb r.share number (block_of entries r.supply number)
  block_leads is read position number r at own_block =
      let own = is.readers position r at in
      let u = f.handout.ueb in
      let h = is.handout in
      let by_u : f.handout.geometry ≡ geometry_by u = h.geometry in
      let block : List ℕ = block_of entries r.supply number in
      let tree = tree_of r.supply.tree number (tagged_hash Block block) own_block.proved in
      let held = own_block.ready.held in
      let below : number < f.end = omega (arith, held.within.before, own.end) in
      let there : number < segment_count f.handout.geometry = omega (arith, below, is.range.within) in
      let shares : LeadTo f.handout.trees.shares u.share_root_hash (share_leaves u.total_shares) = record {
        sound = h.trees.shares.sound;
        of_root = h.roots.shares;
        leaves = h.trees.shares.leaves ∙ ap (λ (x : Geometry). share_leaves x.total) (h.roots.geometry ∙ by_u);
      } in
      let known : known_leaf f.handout.trees.shares r.share ≡ Some tree.0.root = subst (TellsRoot f.handout.trees.shares r.share) tree.1 own.root in
      let leads : IsBlockTree tree.0 (segment_count (geometry_by u)) =
      subst (λ (g : Geometry). IsBlockTree tree.0 (segment_count g)) (own.geometry ∙ by_u)
      (subst (λ (o : Option PartialState). IfSome o (λ t. IsBlockTree t (segment_count r.supply.geometry))) tree.1 own.supply.leads) in
      let size : length block ≡ block_length (geometry_by u) number =
      block_long entries r.supply number own.supply held (has_answers entries r (read.held position r at))
      ∙ ap (λ (g : Geometry). block_length g number) (own.geometry ∙ by_u) in
      let total = ap (λ (g : Geometry). g.total) by_u in
      let low = own.share in
      blocks_lead_in IsOne u f.handout.trees.shares tree.0 r.share number block (omega (arith, low, total)) (subst (λ (g : Geometry). number < segment_count g) by_u there) shares
      h.trees.share_hashes known leads tree.2 size (λ input k. weaker input (file.share_node k)) (λ input k. weaker input (file.block_node position r tree.0 at tree.1 k))
      (weaker _ (file.right_block position r number at own_block refl))

pub right_blocks : RightBlocksLead
right_blocks d f position number r right e at own =
    let of_cap = file_of d f e right.file in
    block_leads (IsTested d) d.requests.entries f.file (λ input t. record { found = f; there = e; tested = t }) (right_of d f e right) of_cap.answers position number r at own
