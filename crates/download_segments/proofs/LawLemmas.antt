-- Blocks and leaves that lead to the roots of an extension block, and files that are no code words.
use Rattle.std.proofs.Common.{◌≡◌, ℕ, ◌<◌, ◌≤◌, List, Contains, length, Some, slice_get, refl, ap, subst, sym, ◌∙◌, arith}
use Rattle.proved_parts.proofs.Files.{length-pieces}
use Rattle.tagged_hash.specs.TaggedHash.{tagged_hash, tagged_input}
use Rattle.tagged_hash.specs.declared.tag.Tag.TheVariants.{Block}
use Rattle.merkle.specs.Inputs.{path_inputs}
use Rattle.merkle.specs.Known.{IsKnownInput, KnowsHashes}
use Rattle.merkle.specs.Partial.{PartialState, known_siblings}
use Rattle.merkle.specs.Path.{path_root}
use Rattle.merkle.specs.Tree.{height}
use Rattle.merkle.proofs.HeightLemmas.{height_room}
use Rattle.merkle.proofs.KnownLemmas.{known_paths, siblings_long}
use Rattle.share_layout.specs.Geometry.{Geometry, segment_count}
use Rattle.share_layout.specs.Pieces.{block_length}
use Rattle.ueb.specs.Shape.{Contents}
use Rattle.share_verify.specs.CapBlock.{geometry_by}
use Rattle.proved_parts.specs.Decoding.{DecodesBlocks}
use Rattle.download_parts.proofs.TreeLemmas.{height-share_leaves, leaves_lead}
use Rattle.download_parts.specs.Trees.{IsBlockTree, LeadTo, ProvesBlock, known_leaf, share_leaves}
use Rattle.download_segments.specs.Decoding.{AreShareNumbers, blocks_in}
use Rattle.download_segments.specs.Laws.{BlocksLead, NoCodeWords}
use Rattle.download_segments.specs.NoCodeWord.{IsAnyInput, IsBlockIn, IsNoCodeWordIn, LeadsIn}
use Rattle.download_segments.specs.State.{HandoutState, IsHandout, RefutesSegment}

-- a leaf that is known leads to the root by hashes, in a tree of that height; what is hashed on the way are nodes whose children are known
leads_in : (IsOne : List ℕ → Type 0) (p : PartialState) (root : List ℕ) (count n leaf : ℕ) (hash : List ℕ) → LeadTo p root count → KnowsHashes p → n ≤ count → height count ≡ height n → leaf < n → known_leaf p leaf ≡ Some hash
    → ((input : List ℕ) → IsKnownInput p input → IsOne input) → LeadsIn IsOne n root leaf hash (known_siblings p leaf)
leads_in IsOne p root count n leaf hash leads hashes few up inside knows all =
    let low : leaf < count = omega (arith, inside, few) in
    let l = leaves_lead p root count leaf hash leads low knows in
    let there : leaf < p.leaf_count = subst (λ (m : ℕ). leaf < m) (sym leads.leaves) low in
    record {
      leads = (inside, subst (λ (h : ℕ). length (known_siblings p leaf) ≡ h) up l.1, subst (λ (h : ℕ). path_root h leaf hash (known_siblings p leaf) ≡ root) up l.2);
      long = hashes _ hash knows;
      hashes = siblings_long p leaf hash leads.sound there knows hashes;
      hashed = λ input among. all input (known_paths p leaf hash input leads.sound there knows
          (subst (λ (h : ℕ). Contains (path_inputs h leaf hash (known_siblings p leaf)) input) (sym up ∙ sym (ap height leads.leaves)) among));
    }

pub blocks_lead_in : (IsOne : List ℕ → Type 0) (u : Contents) (shares tree : PartialState) (share number : ℕ) (block : List ℕ) → share < u.total_shares → number < segment_count (geometry_by u)
    → LeadTo shares u.share_root_hash (share_leaves u.total_shares) → KnowsHashes shares → known_leaf shares share ≡ Some tree.root → IsBlockTree tree (segment_count (geometry_by u)) → ProvesBlock tree number block
    → length block ≡ block_length (geometry_by u) number → ((input : List ℕ) → IsKnownInput shares input → IsOne input) → ((input : List ℕ) → IsKnownInput tree input → IsOne input) → IsOne (tagged_input Block block)
    → IsBlockIn IsOne u share number block
blocks_lead_in IsOne u shares tree share number block there inside shares_lead share_hashes knows own proves long in_shares in_tree hashed = record {
  size = long;
  hashed = hashed;
  root = tree.root;
  in_share = known_siblings tree number;
  leads_in_share = leads_in IsOne tree tree.root (segment_count (geometry_by u)) (segment_count (geometry_by u)) number (tagged_hash Block block) own.leads own.hashes (omega arith) refl inside proves in_tree;
  in_file = known_siblings shares share;
  leads_in_file = leads_in IsOne shares u.share_root_hash (share_leaves u.total_shares) u.total_shares share tree.root shares_lead share_hashes (height_room u.total_shares) (height-share_leaves u.total_shares) there knows in_shares;
}

pub blocks_lead : BlocksLead
blocks_lead u shares tree share number block there inside shares_lead share_hashes knows own proves long =
    blocks_lead_in IsAnyInput u shares tree share number block there inside shares_lead share_hashes knows own proves long (λ input is. tt) (λ input is. tt) tt

-- the leaf that is known for a segment leads to the root that the extension block tells
pub leaf_leads_in : (IsOne : List ℕ → Type 0) (h : HandoutState) (number : ℕ) (leaf : List ℕ) → IsHandout h → number < segment_count h.geometry
    → known_leaf h.trees.ciphertext number ≡ Some leaf → ((input : List ℕ) → IsKnownInput h.trees.ciphertext input → IsOne input)
    → LeadsIn IsOne (segment_count (geometry_by h.ueb)) h.ueb.crypttext_root_hash number leaf (known_siblings h.trees.ciphertext number)
leaf_leads_in IsOne h number leaf k there knows all =
    let inside : number < segment_count h.trees.geometry = subst (λ (g : Geometry). number < segment_count g) (sym k.roots.geometry) there in
    let siblings : List (List ℕ) = known_siblings h.trees.ciphertext number in
    let count : ℕ = segment_count h.trees.geometry in
    let led = leads_in IsOne h.trees.ciphertext h.trees.ciphertext.root count count number leaf k.trees.ciphertext k.trees.hashes (omega arith) refl inside knows all in
    subst (λ (g : Geometry). LeadsIn IsOne (segment_count g) h.ueb.crypttext_root_hash number leaf siblings) (k.roots.geometry ∙ k.geometry)
    (subst (λ (r : List ℕ). LeadsIn IsOne count r number leaf siblings) k.roots.ciphertext led)

pub leaf_leads : (h : HandoutState) (number : ℕ) (leaf : List ℕ) → IsHandout h → number < segment_count h.geometry
    → known_leaf h.trees.ciphertext number ≡ Some leaf
    → LeadsIn IsAnyInput (segment_count (geometry_by h.ueb)) h.ueb.crypttext_root_hash number leaf (known_siblings h.trees.ciphertext number)
leaf_leads h number leaf k there knows = leaf_leads_in IsAnyInput h number leaf k there knows (λ input is. tt)

pub no_code_words_in : (IsOne : List ℕ → Type 0) (h : HandoutState) (numbers : List ℕ) (number : ℕ) (joined segment : List ℕ) → IsHandout h → number < segment_count h.geometry → AreShareNumbers h.geometry numbers
    → DecodesBlocks h.geometry numbers (blocks_in h.geometry number joined) number segment
    → ((i share : ℕ) (block : List ℕ) → slice_get numbers i ≡ Some share → slice_get (blocks_in h.geometry number joined) i ≡ Some block → IsBlockIn IsOne h.ueb share number block)
    → RefutesSegment h number segment → ((input : List ℕ) → IsKnownInput h.trees.ciphertext input → IsOne input) → IsNoCodeWordIn IsOne h.ueb
no_code_words_in IsOne h numbers number joined segment k there shares decodes proved refutes all =
    let blocks : List (List ℕ) = blocks_in h.geometry number joined in
    record {
      number = number;
      there = subst (λ (g : Geometry). number < segment_count g) k.geometry there;
      numbers = numbers;
      blocks = blocks;
      shares = subst (λ (g : Geometry). AreShareNumbers g numbers) k.geometry shares;
      one_each = length-pieces h.geometry.needed (block_length h.geometry number) joined ∙ sym shares.enough;
      proved = proved;
      segment = segment;
      decoded = subst (λ (g : Geometry). DecodesBlocks g numbers blocks number segment) k.geometry decodes;
      leaf = refutes.leaf;
      siblings = known_siblings h.trees.ciphertext number;
      leads = leaf_leads_in IsOne h number refutes.leaf k there refutes.known all;
      differs = refutes.differs;
    }

pub no_code_words : NoCodeWords
no_code_words h numbers number joined segment k there shares decodes proved refutes =
    no_code_words_in IsAnyInput h numbers number joined segment k there shares decodes proved refutes (λ input is. tt)

-- what is hashed of a kind is hashed of each wider one
pub leads_wider : (A B : List ℕ → Type 0) (count : ℕ) (root : List ℕ) (leaf : ℕ) (hash : List ℕ) (siblings : List (List ℕ)) → ((input : List ℕ) → A input → B input)
    → LeadsIn A count root leaf hash siblings → LeadsIn B count root leaf hash siblings
leads_wider A B count root leaf hash siblings wider l = record { leads = l.leads; long = l.long; hashes = l.hashes; hashed = λ input among. wider input (l.hashed input among) }

pub no_code_word_wider : (A B : List ℕ → Type 0) (u : Contents) → ((input : List ℕ) → A input → B input) → IsNoCodeWordIn A u → IsNoCodeWordIn B u
no_code_word_wider A B u wider w = record {
  number = w.number;
  there = w.there;
  numbers = w.numbers;
  blocks = w.blocks;
  shares = w.shares;
  one_each = w.one_each;
  proved = λ i share block at_number at_block. (
      let b = w.proved i share block at_number at_block in
      record {
        size = b.size;
        hashed = wider _ b.hashed;
        root = b.root;
        in_share = b.in_share;
        leads_in_share = leads_wider A B (segment_count (geometry_by u)) b.root w.number (tagged_hash Block block) b.in_share wider b.leads_in_share;
        in_file = b.in_file;
        leads_in_file = leads_wider A B u.total_shares u.share_root_hash share b.root b.in_file wider b.leads_in_file;
      });
  segment = w.segment;
  decoded = w.decoded;
  leaf = w.leaf;
  siblings = w.siblings;
  leads = leads_wider A B (segment_count (geometry_by u)) u.crypttext_root_hash w.number w.leaf w.siblings wider w.leads;
  differs = w.differs;
}
