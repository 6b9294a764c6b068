use Rattle.std.proofs.Common.{◌≡◌, ◌∙◌, ℕ, List, [], Some, get_or, length, ◌<◌, ap, refl, subst, sym, rules, arith}
use Rattle.std.proofs.lemmas.Option.{get_or_from_slice_get, slice_get-get_or}
use Rattle.merkle.specs.Partial.{PartialState, Takes}
use Rattle.merkle.specs.Tree.{height, needed_numbers, node_number}
use Rattle.download_parts.specs.Offers.{share_hashes_offered}
use Rattle.download_parts.specs.Refusal.{HasNumbers}
use Rattle.download_parts.specs.Trees.{FileTreesState, IsBlockRoot}
use Rattle.download_parts.proofs.TreeLemmas.{known-own, known_share_hashes}
use Rattle.download_parts.proofs.file_trees.FileTrees.take_share_hashes.Goals as goal

is_offered : (c : goal.After-drop-offers-2) → c.in_ok-offers.offers.items ≡ share_hashes_offered c.self.inside.geometry.total c.args.share c.args.bytes.now
is_offered c = search rules

is_taken : (c : goal.After-drop-offers-2) → Takes c.self.inside.shares (share_hashes_offered c.self.inside.geometry.total c.args.share c.args.bytes.now) c.offer.new.tree
is_taken c = let items = is_offered c in search (rules, items)

pub returns-clause-root : goal.returns-clause-root
returns-clause-root c =
    let total = c.self.inside.geometry.total in
    let share = c.args.share in
    let bytes = c.args.bytes.now in
    let taken = is_taken c in
    let items = is_offered c in
    let own : get_or (needed_numbers (height total) share) c.own_position.result 0 ≡ node_number (height total) share = search rules in
    let xs = c.in_ok-offers.offers.items in
    let k = c.own_position.result in
    let found = c.index.result.now in
    let there : k < length xs = omega (arith, c.in_ok-offers.ensures.count, c.own_position.ensures.within) in
    let hash : (get_or xs k (0, [])).1 ≡ c.in_ok-tree.tree.root = ap (λ (o : ℕ × List ℕ). o.1) (get_or_from_slice_get xs k found (0, []) (slice_get-get_or xs k found there ∙ ap Some (sym c.index.ensures))) ∙ sym (ap (λ (p : PartialState). p.root) c.in_ok-tree.ensures.tree) in
    known-own c.self.inside.shares c.offer.new.tree total share bytes c.in_ok-tree.tree.root c.own_position.result
    c.self.invariant.shares.leaves taken (subst (λ (l : List (ℕ × List ℕ)). c.own_position.result < length l) items there) own
    (subst (λ (l : List (ℕ × List ℕ)). (get_or l c.own_position.result (0, [])).1 ≡ c.in_ok-tree.tree.root) items hash)

pub returns-clause-block_root : goal.returns-clause-block_root
returns-clause-block_root c =
    let taken = is_taken c in
    subst (λ (t : FileTreesState). IsBlockRoot t.shares.root t.geometry.total c.args.share c.in_ok-tree.tree.root) c.self.view_is
    record {
      tree = c.offer.new.tree;
      leads = record {
        sound = c.offer.ensures.right;
        of_root = taken.root;
        leaves = taken.leaf_count ∙ c.self.invariant.shares.leaves;
      };
      known = returns-clause-root c;
    }

pub invariant_of-self-2 : goal.invariant_of-self-2
invariant_of-self-2 c =
    let was = c.self.invariant in
    let taken = is_taken c in
    record {
      valid = was.valid;
      shares = record { sound = c.offer.ensures.right; of_root = refl; leaves = taken.leaf_count ∙ was.shares.leaves };
      ciphertext = was.ciphertext;
      share_hashes = known_share_hashes c.self.inside.shares c.offer.new.tree c.self.inside.geometry.total c.args.share c.args.bytes.now taken was.share_hashes;
      hashes = was.hashes;
    }

pub returns-clause-right : goal.returns-clause-right
returns-clause-right c = invariant_of-self-2 c

pub returns-clause-numbers : goal.returns-clause-numbers
returns-clause-numbers c = λ other.
    absurd (other (subst (λ (t : FileTreesState). HasNumbers t c.args.share c.args.bytes.now) c.self.view_is (c.carries_numbers.ensures.0 (search rules)).1))
