-- What is hashed for a sound share leads to the roots that its extension block tells.
use Rattle.std.proofs.Common.{◌≡◌, ℕ, ◌<◌, List, [], length, map, unwrap_or, ap, subst, sym, ◌∙◌, arith}
use Rattle.std.specs.List.{range_with_len}
use Rattle.std.proofs.lemmas.List.{ext_get_or}
use Rattle.std.proofs.lemmas.List.FromFn.{get_or-map-range_with_len, length-map-range_with_len}
use Rattle.merkle.specs.Path.{LeadsBy}
use Rattle.merkle.specs.Tree.{height, sibling_number, tree_root}
use Rattle.cap_text.specs.Cap.{VerifyCapValue}
use Rattle.ueb.specs.Shape.{Contents}
use Rattle.share_layout.specs.Geometry.{block_size, segment_count}
use Rattle.share_layout.specs.Share.{Sections}
use Rattle.share_verify.specs.CapBlock.{geometry_by}
use Rattle.share_verify.specs.Pieces.{block_hashes}
use Rattle.share_verify.specs.Inputs.{DoLead, blocks_in, leaves_of, siblings_in}
use Rattle.share_verify.specs.ShareHashes.{LeadsByEntries, carried_hash, entries_in}
use Rattle.share_verify.specs.TreeSection.{root_in}
use Rattle.share_verify.specs.Verify.{IsSound}
use Rattle.share_verify.proofs.SectionLemmas.{leaves_in_tree, length-block_hashes, root_of_tree}

-- the siblings that share hashes give are those that lead
same_siblings : (total leaf : ℕ) (root hash : List ℕ) (entries : List (List ℕ)) (held : LeadsByEntries total root leaf hash entries)
    → held.siblings ≡ siblings_in total leaf entries
same_siblings total leaf root hash entries held =
    let m : ℕ = height total in
    let given : ℕ → List ℕ = λ i. unwrap_or (carried_hash entries (sibling_number m leaf i)) [] in
    let count : length (map given (range_with_len 0 m)) ≡ m = length-map-range_with_len given 0 m in
    ext_get_or [] held.siblings (siblings_in total leaf entries) (held.leads.1 ∙ sym count) (λ i below.
    let low : i < m = omega (arith, held.leads.1) in
    sym (get_or-map-range_with_len given 0 m i i [] low (omega arith)
    ∙ ap (λ o. unwrap_or o []) (held.carried i low)))

pub sound_leads : (c : VerifyCapValue) (num : ℕ) (share : List ℕ) (u : Contents) (s : Sections) → IsSound c num share u s → DoLead u num s
sound_leads c num share u s sound =
    let g = geometry_by u in
    let n : ℕ = segment_count g in
    let tree = sound.sections.ciphertext_tree in
    let hashes = sound.sections.share_hashes in
    let own : leaves_of u s.block_tree ≡ block_hashes (blocks_in u s) =
    leaves_in_tree n s.block_tree (block_hashes (blocks_in u s)) (length-block_hashes n (block_size g) s.blocks) sound.sections.blocks in
    record {
      ciphertext = ap tree_root (leaves_in_tree n s.ciphertext_tree tree.leaves tree.count tree.holds) ∙ tree.root;
      blocks = own;
      block_root = ap tree_root own ∙ root_of_tree s.block_tree (block_hashes (blocks_in u s)) sound.sections.blocks;
      share_hashes = subst (LeadsBy u.total_shares u.share_root_hash num (root_in s.block_tree))
          (same_siblings u.total_shares num u.share_root_hash (root_in s.block_tree) (entries_in s.share_hashes) hashes) hashes.leads;
    }
