-- A share of an encoding has nodes of the encoding's trees, and all that is hashed for these is hashed for the encoding.
use Rattle.std.proofs.Common.{◌≡◌, ℕ, zero, suc, ◌+◌, ◌-◌, ◌^◌, ◌<◌, ◌≤◌, List, [], ◌∷◌, ◌++◌, Some, Contains, length, map, get_or, drop, inl, inr, refl, ap, subst, sym, ◌∙◌, arith, zero-add}
use Rattle.std.specs.Int.{w16, to_be_bytes}
use Rattle.std.specs.List.{range_with_len}
use Rattle.std.specs.Prelude.{slice_get}
use Rattle.std.proofs.lemmas.Bool.{cases_lt}
use Rattle.std.proofs.lemmas.List.{drop_at, get_or_past}
use Rattle.std.proofs.lemmas.List.FromFn.{get_or-map-range_with_len}
use Rattle.lemmas.proofs.Numbers.{next_power}
use Rattle.merkle.specs.Inputs.{tree_inputs}
use Rattle.merkle.specs.Offers.{AreOfTree}
use Rattle.merkle.specs.Tree.{height, needed_numbers, padded, rows, tree_nodes, tree_root}
use Rattle.merkle.proofs.OneTree.{padded_are_hashes}
use Rattle.merkle.proofs.PaddedTree.{padded_again, padded_height, padded_long, padded_root, padded_within}
use Rattle.merkle.proofs.TreeLemmas.{length-tree_nodes, padded_to-leaf}
use Rattle.ueb.specs.Block.{ueb_text}
use Rattle.ueb.specs.Shape.{IsShape}
use Rattle.share_layout.specs.Geometry.{Geometry}
use Rattle.share_layout.specs.Pieces.{segments_of}
use Rattle.share_layout.specs.Share.{Sections}
use Rattle.share_verify.specs.Pieces.{block_hashes}
use Rattle.share_verify.specs.ShareHashes.{entries_in}
use Rattle.download_parts.specs.Offers.{numbered, share_hashes_offered}
use Rattle.proved_parts.specs.FileOf.{segment_hashes}
use Rattle.file_encoding.specs.Encoding.{ciphertext_encoding, sections_of, share_hashes, share_leaves, share_of}
use Rattle.file_encoding.specs.Inputs.{ciphertext_inputs}
use Rattle.file_encoding.proofs.BoundOwn.{block_tree_among, ciphertext_tree_among, leaf_is, leaves_of_shares, length-segment_leaves, length-share_leaves, said, segment_leaves, share_tree_among}
use Rattle.file_encoding.proofs.OwnHashes.{entries_are, needed_hashes}
use Rattle.file_encoding.proofs.OwnShares.{blocks_are_joined, geometry_is, ciphertext_shares_pass, layout, own_sections, written}
use Rattle.answer_laws.specs.Downloads.Downloads.{EncodedSharesServe, EncodedSharesServeIn}
use Rattle.answer_laws.specs.Downloads.FairBlame.{AreOf, IsShareOf}
use Rattle.answer_laws.specs.Downloads.OwnReaders.{IsOwnShare}

-- ---- what share hashes offer

same_offer : (offer : ℕ × List ℕ) (number : ℕ) (hash : List ℕ) → Some offer ≡ Some (number, hash) → (offer.0 ≡ number) × (hash ≡ offer.1)
same_offer offer number hash e = let one : offer ≡ (number, hash) = cc in (ap (λ (o : ℕ × List ℕ). o.0) one, ap (λ (o : ℕ × List ℕ). o.1) (sym one))

numbered_at : (f : ℕ → List ℕ) (ns : List ℕ) (k number : ℕ) (hash : List ℕ) → slice_get (numbered ns (map (λ n. to_be_bytes w16 n ++ f n) ns)) k ≡ Some (number, hash)
    → (k < length ns) × (get_or ns k 0 ≡ number) × (hash ≡ f number)
numbered_at f [] k number hash e = absurd cc
numbered_at f (n ∷ ns) zero number hash e =
    let one = same_offer (n, drop 2 (to_be_bytes w16 n ++ f n)) number hash e in
    (omega arith, one.0, one.1 ∙ drop_at (to_be_bytes w16 n) (f n) 2 refl ∙ ap f one.0)
numbered_at f (n ∷ ns) (suc k) number hash e =
    let rest = numbered_at f ns k number hash e in
    (omega (arith, rest.0), rest.1, rest.2)

-- a node that has a hash is one of the tree
in_list : (xs : List (List ℕ)) (n : ℕ) → length (get_or xs n []) ≡ 32 → n < length xs
in_list xs n long =
    elim (cases_lt n (length xs)) [
      | inl low ↦ low
      | inr beyond ↦ let none = ap length (get_or_past xs n [] beyond) in absurd (omega (arith, long, none))
    ]

padded_nodes : (leaves : List (List ℕ)) → tree_nodes (padded leaves) ≡ tree_nodes leaves
unfolding tree_nodes
padded_nodes leaves i = rows (padded_height leaves i) (padded_again leaves i) (padded_height leaves i + 1)

-- ---- a share of an encoding

module _ (g : Geometry) (ciphertext : List ℕ) (shape : IsShape g.needed g.total g.size g.segment_size) (whole : length ciphertext ≡ g.size) (i : ℕ) (low : i < g.total) where
  abbrev segments : List (List ℕ)
  segments = segments_of g ciphertext

  abbrev leaves : List (List ℕ)
  leaves = share_leaves g segments

  abbrev block : List ℕ
  block = ueb_text (said g ciphertext)

  abbrev s : Sections
  s = sections_of g segments block i

  abbrev share : List ℕ
  share = share_of g segments block i

  count : length leaves ≡ g.total
  count = length-share_leaves g ciphertext

  carries : AreOfTree (padded leaves) (share_hashes_offered g.total i s.share_hashes)
  carries k number hash e =
      let numbers : List ℕ = needed_numbers (height (length leaves)) i in
      let f : ℕ → List ℕ = λ n. get_or (tree_nodes leaves) n [] in
      let few : length leaves ≤ 2 ^ 8 = omega (arith, count, shape.file.shares) in
      let hashes = needed_hashes leaves i (leaves_of_shares g ciphertext) (omega (arith, count, low)) few in
      let entries : entries_in (share_hashes leaves i) ≡ map (λ n. to_be_bytes w16 n ++ f n) numbers = entries_are f numbers hashes in
      let here : slice_get (numbered numbers (map (λ n. to_be_bytes w16 n ++ f n) numbers)) k ≡ Some (number, hash) =
      ap (λ (l : List (List ℕ)). slice_get (numbered numbers l) k) (sym entries)
      ∙ ap (λ n. slice_get (numbered (needed_numbers (height n) i) (entries_in (share_hashes leaves i))) k) count ∙ e in
      let at = numbered_at f numbers k number hash here in
      let long : length (f number) ≡ 32 = subst (λ n. length (f n) ≡ 32) at.1 (hashes k at.0) in
      let inside = in_list (tree_nodes leaves) number long in
      let size = length-tree_nodes leaves in
      let same = ap (λ m. 2 ^ m) (padded_height leaves) in
      let double = next_power (height (length leaves)) in
      (omega (arith, inside, size, same, double), at.2 ∙ ap (λ (l : List (List ℕ)). get_or l number []) (sym (padded_nodes leaves)))

  own : IsOwnShare g i share s (segment_hashes segments) (padded leaves)
  own = record {
    is = layout g ciphertext (geometry_is g ciphertext shape whole) whole i low block (written g ciphertext shape whole).short;
    block_tree = (own_sections g ciphertext (geometry_is g ciphertext shape whole) whole i low block).blocks;
    ciphertext = record {
      count = length-segment_leaves g ciphertext;
      holds = record { hashes = segment_leaves g ciphertext; nodes = refl };
    };
    count = padded_long leaves ∙ ap (λ n. 2 ^ height n) count;
    hashes = padded_are_hashes (2 ^ height (length leaves)) leaves (leaves_of_shares g ciphertext);
    carries = carries;
  }

  module _ (IsOne : List ℕ → Type 0) (mine : AreOf IsOne (ciphertext_inputs g ciphertext)) where
    pub serves : IsShareOf IsOne g (said g ciphertext) i share s (segment_hashes segments) (padded leaves)
    serves =
        let again = (blocks_are_joined g ciphertext (geometry_is g ciphertext shape whole) whole i low).again in
        record {
          own = own;
          share_root = sym (padded_root leaves);
          ciphertext_root = refl;
          leaf = padded_to-leaf (2 ^ height (length leaves)) leaves i (omega (arith, count, low)) ∙ leaf_is g ciphertext i low
              ∙ ap (λ (l : List (List ℕ)). tree_root (block_hashes l)) (sym again);
          share_tree = λ x c. share_tree_among g ciphertext IsOne mine x (padded_within leaves x c);
          ciphertext_tree = ciphertext_tree_among g ciphertext IsOne mine;
          block_tree = subst (λ (l : List (List ℕ)). AreOf IsOne (tree_inputs (block_hashes l))) (sym again) (block_tree_among g ciphertext IsOne mine i low);
        }

pub encoded_shares_serve : (IsOne : List ℕ → Type 0) → EncodedSharesServeIn IsOne
unfolding ciphertext_encoding
encoded_shares_serve IsOne g key ciphertext shape whole mine num low =
    let block : List ℕ = ueb_text (said g ciphertext) in
    let here : get_or (map (share_of g (segments_of g ciphertext) block) (range_with_len 0 g.total)) num [] ≡ share_of g (segments_of g ciphertext) block num =
    get_or-map-range_with_len (share_of g (segments_of g ciphertext) block) 0 g.total num num [] low (zero-add num) in
    record {
      sections = sections_of g (segments_of g ciphertext) block num;
      segments = segment_hashes (segments_of g ciphertext);
      shares = padded (share_leaves g (segments_of g ciphertext));
      sound = ciphertext_shares_pass g key ciphertext shape whole num low;
      of = subst (λ (l : List ℕ). IsShareOf IsOne g (said g ciphertext) num l (sections_of g (segments_of g ciphertext) block num) (segment_hashes (segments_of g ciphertext)) (padded (share_leaves g (segments_of g ciphertext)))) (sym here)
          (serves g ciphertext shape whole num low IsOne mine);
    }

pub encoded_shares_serve_all : EncodedSharesServe
encoded_shares_serve_all inputs = encoded_shares_serve (Contains inputs)
