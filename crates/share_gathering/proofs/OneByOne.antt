-- One segment after another gives what the encoding says of whole lists.
use Rattle.std.proofs.Common.{◌≡◌, ℕ, zero, suc, ◌+◌, ◌*◌, ◌≤◌, List, [], ◌∷◌, ◌++◌, length, take, drop, min, replicate, refl, ap, sym, inl, inr, ◌∙◌, arith}
use Rattle.std.proofs.lemmas.List.{append_assoc, append-nil, length-drop, length-take, take-append-drop}
use Rattle.std.proofs.lemmas.Grind.{div_ceil_times}
use Rattle.std.proofs.lemmas.Bool.{cases_lt}
use Rattle.aes_ctr.specs.CounterMode.{xored, xored_from}
use Rattle.aes_ctr.proofs.StreamLemmas.{length-xored_from}
use Rattle.tagged_hash.specs.TaggedHash.{share_digest, tagged_hash}
use Rattle.tagged_hash.specs.declared.tag.Tag.TheVariants.{Block, CiphertextSegment, WholeShare}
use Rattle.share_layout.specs.Geometry.{Geometry, IsGeometry, segment_count, tree_size}
use Rattle.share_layout.specs.Layout.{header, layout_of, spelled}
use Rattle.share_layout.specs.Pieces.{pieces, segments_of}
use Rattle.merkle.specs.Tree.{tree_nodes}
use Rattle.share_verify.specs.Pieces.{block_hashes, joined}
use Rattle.proved_parts.specs.FileOf.{segment_hashes}
use Rattle.file_encoding.specs.Encoding.{block_of, blocks_of, share_hashes, share_leaves, share_of}
use Rattle.block_making.proofs.Streams.{drop-xored, take-xored}
use Rattle.share_gathering.specs.Gathered.{Gathered, IsGathered, behind_blocks, gathered, gathered_more, gathered_none, gathered_segments}

-- ---- encryption segment by segment

-- the pieces of no text are empty, so encrypted they are the same at each offset
xored-nothing : (key : List ℕ) (p q : ℕ) (text : List ℕ) → length text ≡ 0 → xored_from key p text ≡ xored_from key q text
xored-nothing key p q [] none = refl
xored-nothing key p q (b ∷ bs) none = absurd (omega arith)

-- ---- what is gathered of a ciphertext's segments

-- encrypted at their offsets, the pieces of a text are the pieces of its ciphertext
pub gathered-encrypted : (g : Geometry) (key : List ℕ) (n size offset : ℕ) (text : List ℕ) (s : Gathered)
    → gathered g key offset (pieces n size text) s ≡ gathered_segments g (pieces n size (xored_from key offset text)) s
gathered-encrypted g key zero size offset text s = refl
gathered-encrypted g key (suc n) size offset text s =
    let front : List ℕ = take size text in
    let long : length front ≡ min size (length text) = length-take size text in
    let next : Gathered = gathered_more g (xored_from key offset front) s in
    let rest : xored_from key (offset + length front) (drop size text) ≡ drop size (xored_from key offset text) =
    elim (cases_lt (length text) size) [
      | inl short ↦ xored-nothing key (offset + length front) (offset + size) (drop size text) (omega (arith, length-drop size text)) ∙ sym (drop-xored key size offset text)
      | inr whole ↦ (let same : offset + length front ≡ offset + size = omega (arith, long) in ap (λ p. xored_from key p (drop size text)) same ∙ sym (drop-xored key size offset text))
    ] in
    gathered-encrypted g key n size (offset + length front) (drop size text) next
    ∙ ap (λ (t : List ℕ). gathered_segments g (pieces n size t) next) rest
    ∙ ap (λ (c : List ℕ). gathered_segments g (pieces n size (drop size (xored_from key offset text))) (gathered_more g c s)) (sym (take-xored key size offset text))

-- one more at the end of a list, and the rest
one-more : {X : Type 0} (xs : List X) (x : X) (ys : List X) → (xs ++ x ∷ []) ++ ys ≡ xs ++ x ∷ ys
one-more xs x ys = append_assoc xs (x ∷ []) ys

module _ (g : Geometry) where
  pub ciphertext-all : (cs : List (List ℕ)) (s : Gathered) → (gathered_segments g cs s).ciphertext ≡ s.ciphertext ++ joined cs
  ciphertext-all [] s = sym (append-nil s.ciphertext)
  ciphertext-all (c ∷ cs) s = ciphertext-all cs (gathered_more g c s) ∙ append_assoc s.ciphertext c (joined cs)

  pub leaves-all : (cs : List (List ℕ)) (s : Gathered) → (gathered_segments g cs s).leaves ≡ s.leaves ++ segment_hashes cs
  leaves-all [] s = sym (append-nil s.leaves)
  leaves-all (c ∷ cs) s = leaves-all cs (gathered_more g c s) ∙ one-more s.leaves (tagged_hash CiphertextSegment c) (segment_hashes cs)

  pub block_leaves-all : (i : ℕ) (cs : List (List ℕ)) (s : Gathered) → (gathered_segments g cs s).block_leaves i ≡ s.block_leaves i ++ block_hashes (blocks_of g.needed i cs)
  block_leaves-all i [] s = sym (append-nil (s.block_leaves i))
  block_leaves-all i (c ∷ cs) s =
      block_leaves-all i cs (gathered_more g c s) ∙ one-more (s.block_leaves i) (tagged_hash Block (block_of g.needed i c)) (block_hashes (blocks_of g.needed i cs))

  pub written-all : (i : ℕ) (cs : List (List ℕ)) (s : Gathered) → (gathered_segments g cs s).written i ≡ s.written i ++ joined (blocks_of g.needed i cs)
  written-all i [] s = sym (append-nil (s.written i))
  written-all i (c ∷ cs) s = written-all i cs (gathered_more g c s) ∙ append_assoc (s.written i) (block_of g.needed i c) (joined (blocks_of g.needed i cs))

-- ---- a text and its pieces

pub joined-pieces : (n size : ℕ) (text : List ℕ) → length text ≤ n * size → joined (pieces n size text) ≡ text
joined-pieces zero size [] fits = refl
joined-pieces zero size (b ∷ bs) fits = absurd (omega arith)
joined-pieces (suc n) size text fits =
    let left : length (drop size text) ≤ n * size = omega (arith, length-drop size text, fits) in
    ap (λ (r : List ℕ). take size text ++ r) (joined-pieces n size (drop size text) left) ∙ take-append-drop size text

joined-segments : (g : Geometry) (text : List ℕ) → IsGeometry g → length text ≡ g.size → joined (segments_of g text) ≡ text
joined-segments g text valid long = joined-pieces (segment_count g) g.segment_size text (omega (arith, long, (div_ceil_times g.size g.segment_size valid.some_segment).0))

-- ---- the whole file

-- segment by segment: each is read, encrypted, encoded, hashed and let go
pub one_by_one : (g : Geometry) (key file : List ℕ) → IsGeometry g → length file ≡ g.size
    → IsGathered g (xored key file) (gathered g key 0 (segments_of g file) (gathered_none g))
one_by_one g key file valid long =
    let c : List ℕ = xored key file in
    let cs : List (List ℕ) = segments_of g c in
    let s : Gathered = gathered g key 0 (segments_of g file) (gathered_none g) in
    let all : s ≡ gathered_segments g cs (gathered_none g) = gathered-encrypted g key (segment_count g) g.segment_size 0 file (gathered_none g) in
    record {
      ciphertext_is = ap (λ (t : Gathered). t.ciphertext) all ∙ ciphertext-all g cs (gathered_none g) ∙ joined-segments g c valid (length-xored_from key 0 file ∙ long);
      leaves = ap (λ (t : Gathered). t.leaves) all ∙ leaves-all g cs (gathered_none g);
      block_leaves = λ i. ap (λ (t : Gathered). t.block_leaves i) all ∙ block_leaves-all g i cs (gathered_none g);
      written = λ i. ap (λ (t : Gathered). t.written i) all ∙ written-all g i cs (gathered_none g);
    }

-- seven parts after the first, the last two as one
pub behind : (w a b c d e f : List ℕ) → w ++ a ++ b ++ c ++ d ++ e ++ f ≡ w ++ (a ++ b ++ c ++ d ++ (e ++ f))
behind w a b c d e f =
    append_assoc (w ++ a ++ b ++ c ++ d) e f
    ∙ ap (λ (l : List ℕ). l ++ c ++ d ++ (e ++ f)) (append_assoc w a b)
    ∙ ap (λ (l : List ℕ). l ++ d ++ (e ++ f)) (append_assoc w (a ++ b) c)
    ∙ ap (λ (l : List ℕ). l ++ (e ++ f)) (append_assoc w (a ++ b ++ c) d)
    ∙ append_assoc w (a ++ b ++ c ++ d) (e ++ f)

-- a share is its header and blocks, and what follows from the leaves of all trees
pub in_two : (g : Geometry) (segments : List (List ℕ)) (extension_block : List ℕ) (i : ℕ) → share_of g segments extension_block i
    ≡ header g ++ joined (blocks_of g.needed i segments)
    ++ behind_blocks g (segment_hashes segments) (block_hashes (blocks_of g.needed i segments)) (share_leaves g segments) extension_block i
in_two g segments extension_block i =
    let blocks : List (List ℕ) = blocks_of g.needed i segments in
    behind (header g ++ joined blocks) (replicate (tree_size g) 0) (joined (tree_nodes (segment_hashes segments))) (joined (tree_nodes (block_hashes blocks)))
    (share_hashes (share_leaves g segments) i) (spelled (layout_of g) (length extension_block)) extension_block

-- a share is what its hasher was given with what stands behind its blocks
pub share-in-two : (g : Geometry) (ciphertext extension_block : List ℕ) (s : Gathered) (i : ℕ) → IsGathered g ciphertext s
    → share_of g (segments_of g ciphertext) extension_block i
    ≡ s.written i ++ behind_blocks g s.leaves (s.block_leaves i) (share_leaves g (segments_of g ciphertext)) extension_block i
share-in-two g ciphertext extension_block s i is =
    let segments : List (List ℕ) = segments_of g ciphertext in
    let blocks : List (List ℕ) = blocks_of g.needed i segments in
    behind (header g ++ joined blocks) (replicate (tree_size g) 0) (joined (tree_nodes (segment_hashes segments))) (joined (tree_nodes (block_hashes blocks)))
    (share_hashes (share_leaves g segments) i) (spelled (layout_of g) (length extension_block)) extension_block
    ∙ λ p. sym (is.written i) p ++ behind_blocks g (sym is.leaves p) (sym (is.block_leaves i) p) (share_leaves g segments) extension_block i

-- so the digest of a share is that of what its hasher was given in order: the header, each block as
-- its segment came by, and then the rest
pub digest_in_order : (g : Geometry) (ciphertext extension_block : List ℕ) (s : Gathered) (i : ℕ) → IsGathered g ciphertext s
    → share_digest (share_of g (segments_of g ciphertext) extension_block i)
    ≡ tagged_hash WholeShare (s.written i ++ behind_blocks g s.leaves (s.block_leaves i) (share_leaves g (segments_of g ciphertext)) extension_block i)
digest_in_order g ciphertext extension_block s i is = ap (tagged_hash WholeShare) (share-in-two g ciphertext extension_block s i is)
