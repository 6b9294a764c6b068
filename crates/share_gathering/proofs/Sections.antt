-- What stands around the blocks of a share of which only hashes are kept.
use Rattle.std.proofs.Common.{Global, Vec, ◌≡◌, ℕ, ◌+◌, ◌<◌, ◌≤◌, ◌^◌, List, [], ◌++◌, length, drop, get_or, map, replicate, ap, subst, sym, ◌∙◌, arith, zero-add}
use Rattle.std.specs.List.{range_with_len}
use Rattle.std.proofs.lemmas.List.{append_assoc, append-nil, drop_at, length-append, length-replicate}
use Rattle.std.proofs.lemmas.List.FromFn.{get_or-map-range_with_len, length-map-range_with_len}
use Rattle.std.proofs.lemmas.Simd.{map-map}
use Rattle.merkle.specs.Tree.{tree_nodes, tree_root}
use Rattle.share_layout.specs.declared.layout.Layout.{Layout}
use Rattle.share_layout.specs.declared.layout.Layout.TheVariants.{One, Two}
use Rattle.share_layout.specs.Geometry.{Geometry, IsGeometry, hashes_size, share_data_size, tree_size}
use Rattle.share_layout.specs.Layout.{header, header_size, layout_of, offsets_of, spelled, width}
use Rattle.share_layout.specs.Pieces.{segments_of}
use Rattle.share_layout.proofs.LawLemmas.{have_bounds}
use Rattle.share_layout.proofs.LayoutLemmas.{length-header, length-spelled}
use Rattle.share_verify.specs.Pieces.{block_hashes, joined}
use Rattle.file_encoding.specs.Encoding.{blocks_of, share_hashes, share_leaves}
use Rattle.file_encoding.proofs.OwnShares.{lengths}
use Rattle.share_gathering.specs.Gathered.{behind_blocks}
use Rattle.share_gathering.specs.Kept.{IsKept}
use Rattle.block_making.specs.Making.{HasBlocks, IsMaking, IsPieceOf, Making, ciphertext_from, making_with, put_at}
use Rattle.share_gathering.specs.KeptFile.{IsKeptOf, KeptFile, kept_leaves, kept_length}
use Rattle.share_gathering.specs.declared.buffers.Buffers.{Buffers}
use Rattle.block_making.specs.declared.encoder.Encoder.{Encoder}
use Rattle.share_gathering.proofs.OneByOne.{behind}
use Rattle.block_making.proofs.PieceTexts.{piece-before, put-next}
use Rattle.block_making.proofs.Streams.{length-ciphertext}

-- the bytes of each
abbrev pub texts_of : List (Vec ℕ Global) → List (List ℕ)
texts_of vectors = map (λ (v : Vec ℕ Global). v.items) vectors

-- ---- what is kept, by the bytes that it is of

narrow : (l : Layout) → width l ≤ 8
narrow One = omega arith
narrow Two = omega arith

module _ (p : KeptFile) (hashes : List (List ℕ)) (e : Encoder) (b : Buffers) (kept : IsKept p hashes e b) where
  abbrev pub g : Geometry
  g = p.geometry

  abbrev pub ciphertext : List ℕ
  ciphertext = ciphertext_from p.key 0 kept.bytes

  abbrev pub segments : List (List ℕ)
  segments = segments_of g ciphertext

  whole : length ciphertext ≡ g.size
  whole = length-ciphertext p.key 0 kept.bytes ∙ kept.of.long

  abbrev pub own_leaves : ℕ → List (List ℕ)
  own_leaves i = block_hashes (blocks_of g.needed i segments)

  block_leaves_are : p.block_leaves ≡ map own_leaves (range_with_len 0 g.total)
  block_leaves_are = kept.of.block_leaves

  pub tree_count : length p.block_leaves ≡ g.total
  tree_count = ap length block_leaves_are ∙ length-map-range_with_len own_leaves 0 g.total

  pub hash_count : length hashes ≡ g.total
  hash_count = ap length kept.hashes_are ∙ length-map-range_with_len (share_hashes (map tree_root p.block_leaves)) 0 g.total

  roots_are : map tree_root p.block_leaves ≡ share_leaves g segments
  roots_are = ap (map tree_root) block_leaves_are ∙ map-map tree_root own_leaves (range_with_len 0 g.total)

  pub geometry_valid : IsGeometry g
  geometry_valid = kept.valid

  pub share_some : 1 ≤ kept_length p
  share_some = omega (arith, (have_bounds g geometry_valid).some_blocks)

  pub share_short : kept_length p ≤ 2 ^ 41
  share_short =
      let few = have_bounds g geometry_valid in
      omega (arith, few.few_blocks, few.few_nodes, few.few_hashes, narrow (layout_of g), kept.short)

  module _ (share : ℕ) (low : share < g.total) where
    pub leaves_are : kept_leaves p share ≡ own_leaves share
    leaves_are = ap (λ (l : List (List (List ℕ))). get_or l share []) block_leaves_are ∙ get_or-map-range_with_len own_leaves 0 g.total share share [] low (zero-add share)

    -- the share's blocks are made by what is kept
    abbrev pub making_of : Making
    making_of = making_with g p.key p.block_leaves share

    -- they are those of all bytes of which it may be kept
    pub blocks_of_any : (bytes : List ℕ) → IsKeptOf p bytes → HasBlocks making_of bytes
    blocks_of_any bytes is = record {
      long = is.long;
      hashes =
          ap (λ (l : List (List (List ℕ))). get_or l share []) is.block_leaves
          ∙ get_or-map-range_with_len (λ i. block_hashes (blocks_of g.needed i (segments_of g (ciphertext_from p.key 0 bytes)))) 0 g.total share share [] low (zero-add share);
    }

    pub hashes_at : get_or hashes share [] ≡ share_hashes (map tree_root p.block_leaves) share
    hashes_at =
        ap (λ (l : List (List ℕ)). get_or l share []) kept.hashes_are
        ∙ get_or-map-range_with_len (share_hashes (map tree_root p.block_leaves)) 0 g.total share share [] low (zero-add share)

    -- the lengths of the sections behind the blocks
    pub record HaveSizes : Type 0 where
      pub ciphertext_tree : length (joined (tree_nodes p.leaves)) ≡ tree_size g
      pub block_tree : length (joined (tree_nodes (kept_leaves p share))) ≡ tree_size g
      pub share_hashes_long : length (share_hashes (map tree_root p.block_leaves) share) ≡ hashes_size g

    pub sizes : HaveSizes
    sizes =
        let own = lengths g ciphertext kept.valid whole share low p.extension_block kept.short in
        record {
          ciphertext_tree = kept.tree;
          block_tree = ap (λ (l : List (List ℕ)). length (joined (tree_nodes l))) leaves_are ∙ own.block_tree;
          share_hashes_long = ap (λ (l : List (List ℕ)). length (share_hashes l share)) roots_are ∙ own.share_hashes;
        }

    -- ---- the sections, one after another

    pub sections_put : (offset : ℕ) (out o1 o2 o3 o4 o5 : List ℕ) → offset + length out ≤ kept_length p
        → o1 ≡ put_at 0 (header g) offset out → length o1 ≡ length out
        → o2 ≡ put_at (offsets_of g).ciphertext_tree (joined (tree_nodes p.leaves)) offset o1 → length o2 ≡ length o1
        → o3 ≡ put_at (offsets_of g).block_tree (joined (tree_nodes (kept_leaves p share))) offset o2 → length o3 ≡ length o2
        → o4 ≡ put_at (offsets_of g).share_hashes (share_hashes (map tree_root p.block_leaves) share) offset o3 → length o4 ≡ length o3
        → o5 ≡ put_at (offsets_of g).extension_block (spelled (layout_of g) (length p.extension_block) ++ p.extension_block) offset o4 → length o5 ≡ length o4
        → (front blocks rest : List ℕ) → length front ≡ header_size (layout_of g) → length blocks ≡ share_data_size g
        → IsPieceOf (front ++ blocks ++ (replicate (tree_size g) 0 ++ rest)) offset out
        → IsPieceOf (header g ++ blocks ++ behind_blocks g p.leaves (kept_leaves p share) (map tree_root p.block_leaves) p.extension_block share) offset o5
    sections_put offset out o1 o2 o3 o4 o5 within is1 l1 is2 l2 is3 l3 is4 l4 is5 l5 front blocks rest long size piece =
        let h : List ℕ = header g in
        let z : List ℕ = replicate (tree_size g) 0 in
        let ct : List ℕ = joined (tree_nodes p.leaves) in
        let bt : List ℕ = joined (tree_nodes (kept_leaves p share)) in
        let sh : List ℕ = share_hashes (map tree_root p.block_leaves) share in
        let n : List ℕ = spelled (layout_of g) (length p.extension_block) in
        let eb : List ℕ = p.extension_block in
        let are = sizes in
        let n0 : length h ≡ header_size (layout_of g) = length-header (layout_of g) g in
        let p1 : List ℕ = h ++ blocks ++ z in
        let p2 : List ℕ = p1 ++ ct in
        let p3 : List ℕ = p2 ++ bt in
        let p4 : List ℕ = p3 ++ sh in
        let n1 : length p1 ≡ (offsets_of g).ciphertext_tree = omega (arith, length-append (h ++ blocks) z, length-append h blocks, n0, size, length-replicate {A = ℕ} (tree_size g) 0) in
        let n2 : length p2 ≡ (offsets_of g).block_tree = omega (arith, length-append p1 ct, n1, are.ciphertext_tree) in
        let n3 : length p3 ≡ (offsets_of g).share_hashes = omega (arith, length-append p2 bt, n2, are.block_tree) in
        let n4 : length p4 ≡ (offsets_of g).extension_block = omega (arith, length-append p3 sh, n3, are.share_hashes_long) in
        let s0 : IsPieceOf ([] ++ h ++ drop (length h) (front ++ blocks ++ (z ++ rest))) offset o1 = put-next 0 offset [] (front ++ blocks ++ (z ++ rest)) h out o1 (let e : 0 ≡ 0 = omega arith in e) is1 l1 piece in
        let cut : drop (length h) (front ++ blocks ++ (z ++ rest)) ≡ blocks ++ (z ++ rest) =
        ap (drop (length h)) (append_assoc front blocks (z ++ rest)) ∙ drop_at front (blocks ++ (z ++ rest)) (length h) (long ∙ sym n0) in
        let again : h ++ drop (length h) (front ++ blocks ++ (z ++ rest)) ≡ p1 ++ rest =
        ap (λ (l : List ℕ). h ++ l) cut ∙ sym (append_assoc h blocks (z ++ rest)) ∙ sym (append_assoc (h ++ blocks) z rest) in
        let s1 : IsPieceOf (p1 ++ rest) offset o1 = subst (λ (t : List ℕ). IsPieceOf t offset o1) again s0 in
        let s2 = put-next (offsets_of g).ciphertext_tree offset p1 rest ct o1 o2 n1 is2 l2 s1 in
        let s3 = put-next (offsets_of g).block_tree offset p2 (drop (length ct) rest) bt o2 o3 n2 is3 l3 s2 in
        let s4 = put-next (offsets_of g).share_hashes offset p3 (drop (length bt) (drop (length ct) rest)) sh o3 o4 n3 is4 l4 s3 in
        let left : List ℕ = drop (length sh) (drop (length bt) (drop (length ct) rest)) in
        let s5 = put-next (offsets_of g).extension_block offset p4 left (n ++ eb) o4 o5 n4 is5 l5 s4 in
        let n5 : length (p4 ++ (n ++ eb)) ≡ kept_length p =
        omega (arith, length-append p4 (n ++ eb), length-append n eb, n4, length-spelled (layout_of g) (length eb)) in
        let short : offset + length o5 ≤ length (p4 ++ (n ++ eb)) = omega (arith, n5, within, l1, l2, l3, l4, l5) in
        let s6 : IsPieceOf (p4 ++ (n ++ eb) ++ []) offset o5 = piece-before offset (p4 ++ (n ++ eb)) (drop (length (n ++ eb)) left) [] o5 short s5 in
        let whole : p4 ++ (n ++ eb) ++ [] ≡ h ++ blocks ++ behind_blocks g p.leaves (kept_leaves p share) (map tree_root p.block_leaves) eb share =
        append-nil (p4 ++ (n ++ eb)) ∙ sym (append_assoc p4 n eb) ∙ behind (h ++ blocks) z ct bt sh n eb in
        subst (λ (t : List ℕ). IsPieceOf t offset o5) whole s6

-- the blocks of a share are made by what is kept
pub is_making : (p : KeptFile) (hashes : List (List ℕ)) (e : Encoder) (b : Buffers) (kept : IsKept p hashes e b) (share : ℕ) (low : share < p.geometry.total)
    → IsMaking (making_of p hashes e b kept share low) e.code
is_making p hashes e b kept share low = record {
  geometry = geometry_valid p hashes e b kept;
  file = kept.bytes;
  blocks = λ i below. record { long = kept.of.long; hashes = leaves_are p hashes e b kept i below };
  count = tree_count p hashes e b kept;
  needed = kept.needed;
  total = kept.total;
  number = low;
}
