-- Leaves that are known lead to the roots.
use Rattle.std.proofs.Common.{◌≡◌, ℕ, zero, suc, ◌/◌, ◌^◌, ◌<◌, List, [], ◌∷◌, length, Some, Result, Ok, Err, OnOk, OnErr, slice_get, get_or, ap, refl, subst, sym, ◌∙◌, arith}
use Rattle.std.proofs.lemmas.Option.{slice_get-get_or}
use Rattle.std.proofs.Math.Pow.{pow-lt}
use Rattle.merkle.specs.Known.{KnowsHashes}
use Rattle.merkle.specs.Partial.{PartialState, Takes, known_at, known_siblings}
use Rattle.merkle.specs.Path.{LeadsBy, path_root}
use Rattle.merkle.specs.Tree.{height, needed_numbers, node_number}
use Rattle.merkle.proofs.HeightLemmas.{height_is, height_room}
use Rattle.merkle.proofs.KnownLemmas.{takes_know}
use Rattle.merkle.proofs.StateLemmas.{known-lead}
use Rattle.download_parts.specs.declared.part.Nodes.{Nodes}
use Rattle.download_parts.specs.TreeLaws.{BlockRootsLead, LeavesLead}
use Rattle.download_parts.specs.Offers.{nodes_offered, numbered, share_hashes_offered}
use Rattle.download_parts.specs.Trees.{KnowsAllOf, known_leaf, share_leaves}
use Rattle.download_parts.proofs.OfferLemmas.{numbered_long, offered_long}

-- the share tree is as high with all its leaves
pub height-share_leaves : (total : ℕ) → height (share_leaves total) ≡ height total
height-share_leaves total = height_is (2 ^ height total) (height total) (omega arith) (λ k low. pow-lt low)

pub leaves_lead : LeavesLead
leaves_lead p root count leaf hash leads inside knows =
    subst (λ n. LeadsBy n root leaf hash (known_siblings p leaf)) leads.leaves
    (subst (λ (r : List ℕ). LeadsBy p.leaf_count r leaf hash (known_siblings p leaf)) leads.of_root
    (known-lead p leaf hash leads.sound (subst (λ n. leaf < n) (sym leads.leaves) inside) knows))

pub block_roots_lead : BlockRootsLead
block_roots_lead share_root total share root is inside =
    let low : share < share_leaves total = omega (arith, inside, height_room total) in
    let l = leaves_lead is.tree share_root (share_leaves total) share root is.leads low is.known in
    let up = height-share_leaves total in
    let siblings = known_siblings is.tree share in
    let long = subst (λ h. length siblings ≡ h) up l.1 in
    let leads = subst (λ h. path_root h share root siblings ≡ share_root) up l.2 in
    (siblings, (inside, long, leads))

-- the number of one of the share hashes that are offered
number_at : (ns : List ℕ) (entries : List (List ℕ)) (k : ℕ) → k < length (numbered ns entries) → (get_or (numbered ns entries) k (0, [])).0 ≡ get_or ns k 0
number_at [] entries k there = absurd (omega (arith, there))
number_at (n ∷ ns) [] k there = absurd (omega (arith, there))
number_at (n ∷ ns) (e ∷ es) zero there = refl
number_at (n ∷ ns) (e ∷ es) (suc k) there = number_at ns es k (omega (arith, there))

-- the share's own hash is known once its share hashes are taken
pub known-own : (old new : PartialState) (total share : ℕ) (bytes root : List ℕ) (offset : ℕ) → old.leaf_count ≡ share_leaves total
    → Takes old (share_hashes_offered total share bytes) new → offset < length (share_hashes_offered total share bytes)
    → get_or (needed_numbers (height total) share) offset 0 ≡ node_number (height total) share
    → (get_or (share_hashes_offered total share bytes) offset (0, [])).1 ≡ root → known_leaf new share ≡ Some root
known-own old new total share bytes root offset count takes there own is =
    let offers = share_hashes_offered total share bytes in
    let number = node_number (height total) share in
    let same : height total ≡ height new.leaf_count = sym (ap height (takes.leaf_count ∙ count) ∙ height-share_leaves total) in
    let at : slice_get offers offset ≡ Some (number, root) =
    slice_get-get_or offers offset (0, []) there
    ∙ ap (λ n. Some (n, (get_or offers offset (0, [])).1)) (number_at (needed_numbers (height total) share) _ offset there ∙ own)
    ∙ ap (λ (h : List ℕ). Some (number, h)) is in
    ap (λ h. known_at new (node_number h share)) (sym same) ∙ takes.known.offered offset number root at

-- nodes whose hashes are bytes, 32 each, are taken, or the call refuses and changes nothing
pub known_nodes : {X E : Type 0} (r : Result X E) (old new : PartialState) (nodes : Nodes) (bytes : List ℕ)
    → OnOk r (Takes old (nodes_offered nodes bytes) new) → OnErr r (new ≡ old) → KnowsHashes old → KnowsHashes new
known_nodes (Ok x) old new nodes bytes takes same known =
    takes_know old new (nodes_offered nodes bytes) known (offered_long nodes.row nodes.from (length bytes / 32) bytes (omega arith)) takes
known_nodes (Err e) old new nodes bytes takes same known = subst KnowsHashes (sym same) known

-- the same of share hashes, 34 bytes each with their numbers
pub known_share_hashes : (old new : PartialState) (total share : ℕ) (bytes : List ℕ)
    → Takes old (share_hashes_offered total share bytes) new → KnowsHashes old → KnowsHashes new
known_share_hashes old new total share bytes takes known =
    takes_know old new (share_hashes_offered total share bytes) known
    (numbered_long (needed_numbers (height total) share) (length bytes / 34) bytes (omega arith)) takes

-- ---- what is known stays known

pub knows_itself : (p : PartialState) → KnowsAllOf p p
knows_itself p = record { leaves = refl; known = λ number hash is. is }

pub knows_two : (p q r : PartialState) → KnowsAllOf p q → KnowsAllOf q r → KnowsAllOf p r
knows_two p q r a b = record { leaves = b.leaves ∙ a.leaves; known = λ number hash is. b.known number hash (a.known number hash is) }

pub knows_same : (p q : PartialState) → q ≡ p → KnowsAllOf p q
knows_same p q same = subst (KnowsAllOf p) (sym same) (knows_itself p)

pub knows_taken : (old new : PartialState) (offers : List (ℕ × List ℕ)) → Takes old offers new → KnowsAllOf old new
knows_taken old new offers takes = record { leaves = takes.leaf_count; known = takes.known.kept }

pub leaf_stays : (p q : PartialState) (leaf : ℕ) (hash : List ℕ) → KnowsAllOf p q → known_leaf p leaf ≡ Some hash → known_leaf q leaf ≡ Some hash
leaf_stays p q leaf hash grows known =
    ap (λ n. known_at q (node_number (height n) leaf)) grows.leaves ∙ grows.known (node_number (height p.leaf_count) leaf) hash known
