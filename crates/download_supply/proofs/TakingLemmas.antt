-- One part more is taken.
use Rattle.std.proofs.Common.{◌≡◌, ◌≢◌, ℕ, zero, suc, ◌+◌, ◌-◌, ◌*◌, ◌/◌, ◌<◌, List, [], ◌∷◌, length, get_or, slice_get, Some, is_some, true, inl, inr, ap, refl, subst, sym, ◌∙◌, arith}
use Rattle.std.proofs.lemmas.Bool.{cases_order, false≢true}
use Rattle.std.proofs.lemmas.Grind.{get_or-set_at}
use Rattle.std.proofs.lemmas.List.{get_or-set_other, length-set}
use Rattle.lemmas.proofs.Options.{some_of}
use Rattle.merkle.specs.Partial.{PartialState, Takes, known_at}
use Rattle.merkle.specs.Tree.{node_number}
use Rattle.share_layout.specs.Geometry.{segment_count}
use Rattle.share_verify.specs.TreeSection.{hashes_in}
use Rattle.share_verify.proofs.ChunkLemmas.{length-first_chunks}
use Rattle.download_parts.specs.Plan.{IsAmong, nodes_of}
use Rattle.download_parts.specs.declared.part.NodePiece.{NodePiece}
use Rattle.download_parts.specs.declared.part.Nodes.{Nodes}
use Rattle.download_parts.specs.declared.part.Part.{Part}
use Rattle.download_parts.specs.declared.part.Part.TheVariants.{ShareHashes, BlockTree, CiphertextTree, Data}
use Rattle.download_parts.specs.Offers.{nodes_offered, offered_nodes}
use Rattle.download_parts.specs.Trees.{IsBlockTree}
use Rattle.download_supply.specs.Cursors.{IsPassed, cursor_at, passed}
use Rattle.download_supply.specs.Supply.{IsPartOf, IsSupply, KnowsNodes, SupplyState}
use Rattle.download_supply.specs.Taking.{IsDue, with_taken}
use Rattle.download_supply.proofs.CursorLemmas.{part_next}

pub kept_known : (old new : PartialState) (offers : List (ℕ × List ℕ)) (number : ℕ) → Takes old offers new → is_some (known_at old number) ≡ true
    → is_some (known_at new number) ≡ true
kept_known old new offers number takes is =
    let hash = some_of (known_at old number) is in
    ap (is_some {T = List ℕ}) (takes.known.kept number hash.0 hash.1)

-- the nodes that are offered
offered_at : (row position : ℕ) (hashes : List (List ℕ)) (k : ℕ) → k < length hashes
    → slice_get (offered_nodes row position hashes) k ≡ Some (node_number row (position + k), get_or hashes k [])
offered_at row position [] k there = absurd (omega (arith, there))
offered_at row position (hash ∷ hashes) zero there = let same : position ≡ position + 0 = omega arith in ap (λ n. Some (node_number row n, hash)) same
offered_at row position (hash ∷ hashes) (suc k) there =
    let same : position + 1 + k ≡ position + suc k = omega arith in
    offered_at row (position + 1) hashes k (omega (arith, there)) ∙ ap (λ n. Some (node_number row n, get_or hashes k [])) same

-- are known once they are taken
pub offered_known : (n : Nodes) (bytes : List ℕ) (old new : PartialState) → length bytes ≡ 32 * n.count → Takes old (nodes_offered n bytes) new
    → (position : ℕ) → IsAmong n position → is_some (known_at new (node_number n.row position)) ≡ true
offered_known n bytes old new long takes position among =
    let k = position - n.from in
    let count : length (hashes_in bytes) ≡ n.count = length-first_chunks 32 (length bytes / 32) bytes ∙ omega (arith, long) in
    let from = among.0 in
    let before = among.1 in
    let there : k < length (hashes_in bytes) = omega (arith, count, from, before) in
    let same : n.from + k ≡ position = omega (arith, from) in
    let known = takes.known.offered k (node_number n.row (n.from + k)) (get_or (hashes_in bytes) k []) (offered_at n.row n.from (hashes_in bytes) k there) in
    ap (λ p. is_some (known_at new (node_number n.row p))) (sym same) ∙ ap (is_some {T = List ℕ}) known

-- what is taken was asked
pub order_more : (s : SupplyState) (part : Part) → IsSupply s → IsDue s part → (q : Part) → IsPassed (passed s.taken part) q → IsPassed s.asked q
order_more s part is due q passes =
    elim ((part_next s.taken part q due.next).0 passes) [
      | inl before ↦ is.in_order q before
      | inr one ↦ subst (λ (p : Part). IsPassed s.asked p) one due.asked
    ]

-- a piece of the ciphertext tree
pub ciphertext_taken : (s : SupplyState) (p : NodePiece) → IsSupply s → IsDue s (CiphertextTree p) → IsSupply (with_taken s (CiphertextTree p))
ciphertext_taken s p is due = record {
  range = is.range;
  begins = is.begins;
  asked_levels = is.asked_levels;
  taken_levels = record {
    block_tree = is.taken_levels.block_tree;
    ciphertext_tree = length-set s.taken.ciphertext_tree p.level (p.index + 1) ∙ is.taken_levels.ciphertext_tree;
  };
  parts = parts_still;
  in_order = order_more s (CiphertextTree p) is due;
  given = λ level. elim (cases_order level p.level) [
    | inl same ↦
        let at = get_or-set_at s.taken.ciphertext_tree p.level level (p.index + 1) 0 same due.next.level in
        let was : cursor_at s.taken.ciphertext_tree level ≡ p.index = ap (cursor_at s.taken.ciphertext_tree) same ∙ sym due.next.index in
        omega (arith, is.given level, at, was)
    | inr other ↦
        let apart : level ≢ p.level = λ e. elim other [ inl less ↦ omega (arith, less, e) | inr more ↦ omega (arith, more, e) ] in
        omega (arith, is.given level, get_or-set_other s.taken.ciphertext_tree p.level level (p.index + 1) 0 apart)
  ];
  tree = is.tree;
  leads = is.leads;
  knows = λ piece taken. knows_still (is.knows piece taken);
  held = is.held;
} where
  parts_still : (part : Part) → IsPassed (with_taken s (CiphertextTree p)).asked part → IsPartOf (with_taken s (CiphertextTree p)) part
  parts_still ShareHashes passes = tt
  parts_still (BlockTree q) passes = is.parts (BlockTree q) passes
  parts_still (CiphertextTree q) passes = is.parts (CiphertextTree q) passes
  parts_still (Data i) passes = is.parts (Data i) passes

  knows_still : {n : Nodes} → KnowsNodes s n → KnowsNodes (with_taken s (CiphertextTree p)) n
  knows_still knows = record { tree = knows.tree; is = knows.is; known = knows.known }

-- the share hashes
pub tree_taken : (s : SupplyState) (tree : PartialState) → IsSupply s → IsDue s ShareHashes → IsBlockTree tree (segment_count s.geometry)
    → IsSupply (record (with_taken s ShareHashes) { tree = Some tree })
tree_taken s tree is due leads = record {
  range = is.range;
  begins = is.begins;
  asked_levels = is.asked_levels;
  taken_levels = record { block_tree = is.taken_levels.block_tree; ciphertext_tree = is.taken_levels.ciphertext_tree };
  parts = parts_still;
  in_order = order_more s ShareHashes is due;
  given = is.given;
  tree = refl;
  leads = leads;
  knows = λ piece taken. absurd (let knows = is.knows piece taken in
      false≢true (sym due.next ∙ sym is.tree ∙ ap (is_some {T = PartialState}) knows.is));
  held = is.held;
} where
  parts_still : (part : Part) → IsPassed s.asked part → IsPartOf (record (with_taken s ShareHashes) { tree = Some tree }) part
  parts_still ShareHashes passes = tt
  parts_still (BlockTree q) passes = is.parts (BlockTree q) passes
  parts_still (CiphertextTree q) passes = is.parts (CiphertextTree q) passes
  parts_still (Data i) passes = is.parts (Data i) passes

-- a piece of the block tree
module _ (s : SupplyState) (p : NodePiece) (bytes : List ℕ) (is : IsSupply s) (due : IsDue s (BlockTree p))
    (before after : PartialState) (was : s.tree ≡ Some before) (long : length bytes ≡ 32 * (nodes_of s.geometry s.first s.end p).count)
    (takes : Takes before (nodes_offered (nodes_of s.geometry s.first s.end p) bytes) after)
    (leads : IsBlockTree after (segment_count s.geometry)) where
  abbrev pub then : SupplyState
  then = record (with_taken s (BlockTree p)) { tree = Some after }

  parts_then : (part : Part) → IsPassed s.asked part → IsPartOf then part
  parts_then ShareHashes passes = tt
  parts_then (BlockTree q) passes = is.parts (BlockTree q) passes
  parts_then (CiphertextTree q) passes = is.parts (CiphertextTree q) passes
  parts_then (Data i) passes = is.parts (Data i) passes

  knows_then : (q : NodePiece) → IsPassed (passed s.taken (BlockTree p)) (BlockTree q) → KnowsNodes then (nodes_of s.geometry s.first s.end q)
  knows_then q passes =
      elim ((part_next s.taken (BlockTree p) (BlockTree q) due.next).0 passes) [
        | inl earlier ↦ let knows = is.knows q earlier in
            let same : knows.tree ≡ before = let e : Some knows.tree ≡ Some before = sym knows.is ∙ was in cc in
            record {
              tree = after;
              is = refl;
              known = λ position among. kept_known before after (nodes_offered (nodes_of s.geometry s.first s.end p) bytes) _ takes
                  (subst (λ (t : PartialState). is_some (known_at t (node_number (nodes_of s.geometry s.first s.end q).row position)) ≡ true) same (knows.known position among));
            }
        | inr one ↦ let same : p ≡ q = cc in
            subst (λ (r : NodePiece). KnowsNodes then (nodes_of s.geometry s.first s.end r)) same
            (record { tree = after; is = refl; known = offered_known (nodes_of s.geometry s.first s.end p) bytes before after long takes })
      ]

  pub nodes_taken : IsSupply then
  nodes_taken = record {
    range = is.range;
    begins = is.begins;
    asked_levels = is.asked_levels;
    taken_levels = record {
      block_tree = length-set s.taken.block_tree p.level (p.index + 1) ∙ is.taken_levels.block_tree;
      ciphertext_tree = is.taken_levels.ciphertext_tree;
    };
    parts = parts_then;
    in_order = order_more s (BlockTree p) is due;
    given = is.given;
    tree = sym due.next.0;
    leads = leads;
    knows = knows_then;
    held = is.held;
  }
