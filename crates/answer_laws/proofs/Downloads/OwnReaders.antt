-- A reader whose server answered with a share's own bytes alone is not refused.
use Rattle.std.proofs.Common.{◌≡◌, ℕ, ◌+◌, ◌-◌, ◌*◌, ◌^◌, ◌<◌, ◌≤◌, All, List, [], ◌∷◌, length, get_or, map, take, drop, Option, Some, IfSome, slice_range, inl, inr, ap, subst, sym, ◌∙◌, arith}
use Rattle.std.proofs.lemmas.List.{get_or-drop, get_or-map, get_or-take, length-drop, length-map, length-take-le}
use Rattle.std.proofs.lemmas.List.Elements.{All-contains}
use Rattle.lemmas.proofs.Members.{contains_head}
use Rattle.request_record.specs.declared.requests.Request.{Request}
use Rattle.tagged_hash.specs.TaggedHash.{tagged_hash}
use Rattle.tagged_hash.specs.declared.tag.Tag.TheVariants.{Block}
use Rattle.merkle.specs.Offers.{AreOfTree}
use Rattle.merkle.specs.OneTree.{KnowsTree}
use Rattle.merkle.specs.Partial.{IsNotConsistent, PartialState, leaf_number}
use Rattle.merkle.specs.Tree.{height, needed_numbers, node_number, padded, tree_nodes}
use Rattle.merkle.proofs.HeightLemmas.{height_room}
use Rattle.merkle.proofs.OwnOffers.{own_nodes_are_consistent}
use Rattle.merkle.proofs.TreeLemmas.{node-leaf, padded_to-leaf, tree_nodes_node}
use Rattle.share_layout.specs.Geometry.{Geometry, block_size, hashes_size, segment_count}
use Rattle.share_layout.specs.Layout.{offsets_of}
use Rattle.share_layout.specs.Pieces.{block_at}
use Rattle.share_layout.specs.Share.{CarriesNumbers, IsShare, Sections}
use Rattle.share_layout.proofs.ShareLemmas.{parts_of}
use Rattle.share_verify.proofs.SectionLemmas.{get_or-block_hashes, length-block_hashes}
use Rattle.share_verify.specs.declared.check.Check.{Check}
use Rattle.share_verify.specs.declared.check.Check.TheVariants as checks
use Rattle.download_parts.specs.Plan.{IsNodePiece, IsPart, length_of, nodes_of, offset_of}
use Rattle.download_parts.specs.Range.{IsRange}
use Rattle.download_parts.specs.declared.part.Nodes.{Nodes}
use Rattle.download_parts.specs.declared.part.Part.{Part}
use Rattle.download_parts.specs.declared.part.Part.TheVariants.{ShareHashes, BlockTree, CiphertextTree, Data}
use Rattle.download_parts.specs.Offers.{nodes_offered, share_hashes_offered}
use Rattle.download_parts.specs.Refusal.{IsHashesRefusal}
use Rattle.download_parts.specs.Trees.{FileTreesState, IsBlockTree, known_leaf, share_leaves}
use Rattle.download_supply.specs.Asking.{IsReadOf}
use Rattle.download_supply.specs.Blocks.{block_end, block_first}
use Rattle.download_supply.specs.Supply.{IsSupply, SupplyState, first_of}
use Rattle.download_supply.proofs.PlanLemmas.{block_order}
use Rattle.download_file.specs.Answers.{HoldsFor, answer_at, block_of}
use Rattle.download_file.specs.Right.{IsFile}
use Rattle.download_file.specs.State.{FileState, ReaderState}
use Rattle.download_file.specs.Taking.{KnowsProof, RefutesPart}
use Rattle.download_file.specs.declared.reader.Waiting.{Waiting}
use Rattle.download_file.proofs.GrowLemmas.{answer_is}
use Rattle.download_file.proofs.ProofLemmas.{first_parts_are_proved}
use Rattle.answer_laws.specs.Downloads.Answers.{AnswersOwn}
use Rattle.answer_laws.specs.Downloads.OwnParts.{HoldsLeaves, own_part}
use Rattle.answer_laws.specs.Downloads.OwnReaders.{IsOwnShare, KnowsOwn, OwnBlocksAreRight, OwnBytesAreTaken, own_leaves}
use Rattle.answer_laws.proofs.Downloads.HashSiblings.{share_hashes_have_siblings}
use Rattle.answer_laws.proofs.Downloads.OwnBlock.{own_pieces_join}
use Rattle.answer_laws.proofs.Downloads.OwnPieces.{own_parts_have_lengths, own_pieces_go_on}

-- ---- own blocks

-- a known leaf is the tree's
pub known_leaf_is : (t : PartialState) (leaves : List (List ℕ)) (leaf : ℕ) (hash : List ℕ) → t.leaf_count ≡ length leaves → KnowsTree t leaves → leaf < length leaves
    → known_leaf t leaf ≡ Some hash → hash ≡ get_or leaves leaf []
known_leaf_is t leaves leaf hash count knows inside is =
    let m : ℕ = height (length leaves) in
    let room = height_room (length leaves) in
    knows (leaf_number t.leaf_count leaf) hash is
    ∙ ap (λ (n : ℕ). get_or (tree_nodes leaves) (node_number (height n) leaf) []) count
    ∙ tree_nodes_node leaves m leaf (omega arith) (omega (arith, inside, room))
    ∙ node-leaf m (padded leaves) leaf
    ∙ padded_to-leaf (2 ^ m) leaves leaf inside

module _ (entries : List Request) (server num : ℕ) (s : SupplyState) (share : List ℕ) (sections : Sections) (supply : IsSupply s) (holds : HoldsFor entries server num s)
    (own : AnswersOwn entries server num share) (of : IsShare s.geometry num share sections) where
  own_piece : (k : ℕ) → k < length s.held → answer_at entries (get_or s.held k 0) ≡ own_part s.geometry s.first s.end share (Data k)
  own_piece k low =
      let a = holds k low in
      answer_is entries (get_or s.held k 0) a.bytes (record { request = a.request; there = a.there; answer = a.answer })
      ∙ own (get_or s.held k 0) (offset_of s.geometry s.first s.end (Data k)) (length_of s.geometry s.first s.end (Data k)) a.request a.bytes a.there a.of_server a.asked a.answer

  pub own_block : (number : ℕ) → s.first ≤ number → number < s.end → block_end s.geometry s.first number ≤ length s.held
      → block_of entries s number ≡ block_at s.geometry number sections.blocks
  own_block number from before within =
      let a = block_first s.geometry s.first number in
      let b = block_end s.geometry s.first number in
      let order : a ≤ b = block_order s.geometry s.first number in
      let positions : List ℕ = slice_range s.held a b in
      let f : ℕ → List ℕ = answer_at entries in
      let long : length positions ≡ b - a = length-take-le (b - a) (drop a s.held) (omega (arith, length-drop a s.held, within)) in
      let count : length (map f positions) ≡ b - a = length-map positions f ∙ long in
      own_pieces_join s.geometry s.first s.end number num share sections (map f positions) supply.range from before of count
      (λ k low.
      let few : k < b - a = omega (arith, low, count) in
      get_or-map f positions k 0 [] (omega (arith, few, long))
      ∙ ap f (get_or-take (b - a) (drop a s.held) k 0 few ∙ get_or-drop a s.held k 0)
      ∙ own_piece (a + k) (omega (arith, few, within, order)))

pub own_blocks_are_right : OwnBlocksAreRight
own_blocks_are_right entries f reader share s is reads wrong own of knows =
    let r = wrong.r in
    let mine = is.readers reader r wrong.there in
    let g : Geometry = f.handout.geometry in
    let same : r.supply.geometry ≡ g = mine.geometry in
    let here : IsShare r.supply.geometry r.share share s = subst (λ (h : Geometry). IsShare h r.share share s) (sym same) of in
    let held = wrong.held in
    let number : ℕ = wrong.number in
    let block = own_block entries r.server r.share r.supply share s mine.supply (reads.held reader r wrong.there) own here number held.within.from held.within.before held.pieces in
    let leads = (subst (λ (o : Option PartialState). IfSome o (λ t. IsBlockTree t (segment_count r.supply.geometry))) wrong.is mine.supply.leads).leads in
    let n : ℕ = segment_count g in
    let leaves : List (List ℕ) = own_leaves g s in
    let count : length leaves ≡ n = length-block_hashes n (block_size g) s.blocks in
    let before = held.within.before in
    let within = mine.supply.range.within in
    let inside : number < n = subst (λ (h : Geometry). number < segment_count h) same (omega (arith, before, within)) in
    let leaf = known_leaf_is wrong.tree leaves number wrong.refuted.leaf (leads.leaves ∙ ap segment_count same ∙ sym count) knows (omega (arith, inside, count)) wrong.refuted.known in
    wrong.refuted.differs (leaf ∙ get_or-block_hashes n (block_size g) s.blocks number inside ∙ ap (λ (h : Geometry). tagged_hash Block (block_at h number s.blocks)) (sym same) ∙ ap (tagged_hash Block) (sym block))

-- ---- own parts

abbrev IsNotConsistentFor : PartialState → Nodes → List ℕ → Type 0
IsNotConsistentFor t n bytes = IsNotConsistent t (nodes_offered n bytes)

-- the part is the first that waits
first_read : (r : ReaderState) (first : Waiting) (others : List Waiting) → r.waiting ≡ first ∷ others → All (λ w. IsReadOf r.supply w.wanted) r.waiting → IsReadOf r.supply first.wanted
first_read r first others waits all =
    All-contains (λ w. IsReadOf r.supply w.wanted) (first ∷ others) first (subst (λ (ws : List Waiting). All (λ w. IsReadOf r.supply w.wanted) ws) waits all) (contains_head first others)

module _ (f : FileState) (r : ReaderState) (share : List ℕ) (s : Sections) (segments shares : List (List ℕ)) (is : IsFile f) (supply : IsSupply r.supply)
    (same : r.supply.geometry ≡ f.handout.geometry) (start : r.supply.start ≡ f.first) (end : r.supply.end ≡ f.end) (number : r.share < f.handout.geometry.total)
    (own : IsOwnShare f.handout.geometry r.share share s segments shares) (knows : KnowsOwn f.handout r s segments shares) where
  abbrev g : Geometry
  g = f.handout.geometry

  abbrev trees : FileTreesState
  trees = f.handout.trees

  own_hashes : own_part g f.first f.end share ShareHashes ≡ s.share_hashes
  own_hashes =
      let p = offsets_of g in
      let here : s.share_hashes ≡ slice_range share p.share_hashes p.extension_block = ap (λ (t : Sections). t.share_hashes) (parts_of g share s own.is.text own.is.lengths).sections in
      let long : hashes_size g ≡ p.extension_block - p.share_hashes = omega arith in
      ap (λ (n : ℕ). take n (drop p.share_hashes share)) long ∙ sym here

  total_is : trees.geometry.total ≡ g.total
  total_is = ap (λ (h : Geometry). h.total) is.handout.roots.geometry

  no_hashes_refusal : (check : Check) → IsHashesRefusal trees r.share s.share_hashes check → ⊥
  no_hashes_refusal checks.Layout not = not (subst (λ (n : ℕ). CarriesNumbers (needed_numbers (height n) r.share) s.share_hashes) (sym total_is) own.is.numbers)
  no_hashes_refusal checks.ShareHashes refused =
      let offers = share_hashes_offered trees.geometry.total r.share s.share_hashes in
      let long : length s.share_hashes ≡ (height trees.geometry.total + 1) * 34 = own.is.lengths.share_hashes ∙ ap (λ (n : ℕ). (height n + 1) * 34) (sym total_is) in
      let room = height_room trees.geometry.total in
      own_nodes_are_consistent trees.shares shares offers
      (is.handout.trees.shares.leaves ∙ ap share_leaves total_is ∙ sym own.count)
      own.hashes
      knows.share_tree
      (subst (λ (n : ℕ). AreOfTree shares (share_hashes_offered n r.share s.share_hashes)) (sym total_is) own.carries)
      (share_hashes_have_siblings trees.shares trees.geometry.total r.share s.share_hashes (omega (arith, room, number, total_is)) long)
      refused.1
  no_hashes_refusal checks.Ueb refused = refused
  no_hashes_refusal checks.Unused refused = refused
  no_hashes_refusal checks.CiphertextTree refused = refused
  no_hashes_refusal checks.BlockTree refused = refused
  no_hashes_refusal checks.Data refused = refused

  no_refusal : (part : Part) (bytes : List ℕ) (check : Check) → IsPart r.supply.geometry (first_of r.supply part) r.supply.end part
      → bytes ≡ own_part r.supply.geometry (first_of r.supply part) r.supply.end share part → KnowsProof f.handout f.first f.end r part
      → RefutesPart f.handout f.first f.end r part bytes check → ⊥
  no_refusal ShareHashes bytes check there mine proof refused =
      let here : bytes ≡ s.share_hashes = mine ∙ ap (λ (h : Geometry). own_part h f.first f.end share ShareHashes) same ∙ own_hashes in
      no_hashes_refusal check (subst (λ (l : List ℕ). IsHashesRefusal trees r.share l check) here refused)
  no_refusal (BlockTree p) bytes check there mine proof refused =
      let piece = refused.1 in
      let leads = (subst (λ (o : Option PartialState). IfSome o (λ t. IsBlockTree t (segment_count r.supply.geometry))) piece.is supply.leads).leads in
      let h : Geometry = r.supply.geometry in
      let of : IsShare h r.share share s = subst (λ (k : Geometry). IsShare k r.share share s) (sym same) own.is in
      let leaves : List (List ℕ) = own_leaves g s in
      let holds : HoldsLeaves h s.block_tree leaves = record {
        count = length-block_hashes (segment_count g) (block_size g) s.blocks ∙ ap segment_count (sym same);
        holds = own.block_tree;
      } in
      let goes = (own_pieces_go_on h r.supply.first r.supply.end r.share share s p leaves supply.range there of).0 holds in
      goes.go_on piece.tree leads.sound leads.leaves (knows.block_tree piece.tree piece.is) (proof piece.tree piece.is)
      (subst (λ (l : List ℕ). IsNotConsistentFor piece.tree (nodes_of h r.supply.first r.supply.end p) l) mine piece.refuted)
  no_refusal (CiphertextTree p) bytes check there mine proof refused =
      let moved : own_part r.supply.geometry r.supply.start r.supply.end share (CiphertextTree p) ≡ own_part g f.first f.end share (CiphertextTree p) =
      λ i. own_part (same i) (start i) (end i) share (CiphertextTree p) in
      let piece : IsNodePiece g f.first f.end p =
      subst (λ (k : Geometry). IsNodePiece k f.first f.end p) same
      (subst (λ (n : ℕ). IsNodePiece r.supply.geometry n f.end p) start (subst (λ (n : ℕ). IsNodePiece r.supply.geometry r.supply.start n p) end there)) in
      let goes = (own_pieces_go_on g f.first f.end r.share share s p segments is.range piece own.is).1 own.ciphertext in
      let count : trees.ciphertext.leaf_count ≡ segment_count g = is.handout.trees.ciphertext.leaves ∙ ap segment_count is.handout.roots.geometry in
      goes.go_on trees.ciphertext is.handout.trees.ciphertext.sound count knows.ciphertext proof
      (subst (λ (l : List ℕ). IsNotConsistentFor trees.ciphertext (nodes_of g f.first f.end p) l) (mine ∙ moved) refused.1)
  no_refusal (Data i) bytes check there mine proof refused = refused

whole_range : (s : SupplyState) → IsSupply s → IsRange s.geometry s.start s.end
whole_range s is =
    let begins = is.begins in
    let some = is.range.some in
    record { valid = is.range.valid; some = omega (arith, begins, some); within = is.range.within }

long : (r : ReaderState) (part : Part) (share : List ℕ) (s : Sections) → IsSupply r.supply → IsPart r.supply.geometry (first_of r.supply part) r.supply.end part → IsShare r.supply.geometry r.share share s
    → length (own_part r.supply.geometry (first_of r.supply part) r.supply.end share part) ≡ length_of r.supply.geometry (first_of r.supply part) r.supply.end part
long r ShareHashes share s is there of = own_parts_have_lengths r.supply.geometry r.supply.first r.supply.end r.share share s ShareHashes is.range there of
long r (BlockTree p) share s is there of = own_parts_have_lengths r.supply.geometry r.supply.first r.supply.end r.share share s (BlockTree p) is.range there of
long r (CiphertextTree p) share s is there of = own_parts_have_lengths r.supply.geometry r.supply.start r.supply.end r.share share s (CiphertextTree p) (whole_range r.supply is) there of
long r (Data i) share s is there of = own_parts_have_lengths r.supply.geometry r.supply.first r.supply.end r.share share s (Data i) is.range there of

pub own_bytes_are_taken : OwnBytesAreTaken
own_bytes_are_taken f reader bytes check share s segments shares is live refused own knows mine =
    let r = refused.r in
    let reads = is.readers reader r refused.there in
    let w = refused.first in
    let read = first_read r w refused.others refused.waits (is.live.reads reader r live refused.there) in
    let part : Part = w.wanted.part in
    let proof = first_parts_are_proved f reader r w refused.others is live refused.there refused.waits in
    let here : bytes ≡ own_part r.supply.geometry (first_of r.supply part) r.supply.end share part = mine ∙ (λ i. take (read.length i) (drop (read.offset i) share)) in
    elim refused.why [
      | inl other ↦
          let moved : IsShare r.supply.geometry r.share share s = subst (λ (h : Geometry). IsShare h r.share share s) (sym reads.geometry) own.is in
          other.1 (ap length here ∙ long r part share s reads.supply read.part moved ∙ sym read.length)
      | inr part_of ↦ no_refusal f r share s segments shares is reads.supply reads.geometry reads.start reads.end reads.share own knows part bytes check read.part here proof part_of.1
    ]
