-- A piece whose blocks have the hashes that are kept is that of the file's share, or there is a clash.
use Rattle.std.proofs.Common.{◌≡◌, ◌⊎◌, ℕ, ◌<◌, List, [], ◌++◌, length, take, drop, slice_index_or, inl, inr, ap, sym, ◌∙◌, arith}
use Rattle.std.specs.List.{range_with_len}
use Rattle.std.proofs.lemmas.List.FromFn.{get_or-map-range_with_len}
use Rattle.std.proofs.lemmas.Simd.{map-map}
use Rattle.aes_ctr.specs.CounterMode.{xored}
use Rattle.merkle.specs.Tree.{tree_root}
use Rattle.ueb.specs.Block.{ueb_text}
use Rattle.share_layout.specs.Geometry.{Geometry, share_data_size}
use Rattle.share_layout.specs.Layout.{header}
use Rattle.share_layout.specs.Pieces.{segments_of}
use Rattle.share_verify.specs.Pieces.{block_hashes, joined}
use Rattle.proved_parts.specs.FileOf.{segment_hashes}
use Rattle.file_encoding.specs.Encoding.{Parameters, blocks_of, ciphertext_encoding, encoding_of, extension_block_contents, share_of}
use Rattle.share_gathering.specs.Gathered.{behind_blocks}
use Rattle.file_streaming.specs.Prepared.{PreparedFile, geometry_for, key_for, prepared_of}
use Rattle.file_streaming.specs.Piece.{GivesPiece, blocks_for, leaves_of, piece_of, share_with}
use Rattle.share_gathering.specs.Clash.{HaveClash}
use Rattle.share_gathering.proofs.Blocks.{blocks_or_clash}
use Rattle.share_gathering.proofs.OneByOne.{in_two}

module _ (file secret : List ℕ) (q : Parameters) (share : ℕ) (there : share < q.total) where
  abbrev g : Geometry
  g = geometry_for file q

  abbrev segments : List (List ℕ)
  segments = segments_of g (xored (key_for file secret q) file)

  abbrev block : List ℕ
  block = ueb_text (extension_block_contents g (xored (key_for file secret q) file) segments)

  -- the leaves that are kept of the share
  leaves_are : leaves_of (prepared_of file secret q) share ≡ block_hashes (blocks_of g.needed share segments)
  leaves_are = get_or-map-range_with_len (λ i. block_hashes (blocks_of g.needed i segments)) 0 g.total share share [] there (omega arith)

  -- the share with its own blocks is the encoding's
  share_is : share_with (prepared_of file secret q) (blocks_of g.needed share segments) share ≡ slice_index_or (encoding_of file secret q).shares share []
  unfolding encoding_of ciphertext_encoding
  share_is =
      (λ p. header g ++ joined (blocks_of g.needed share segments) ++ behind_blocks g (segment_hashes segments) (leaves_are p)
      (map-map tree_root (λ i. block_hashes (blocks_of g.needed i segments)) (range_with_len 0 g.total) p) block share)
      ∙ sym (in_two g segments block share)
      ∙ sym (get_or-map-range_with_len (share_of g segments block) 0 g.total share share [] there (omega arith))

  right : (offset : ℕ) (bytes : List ℕ) → (given : GivesPiece (prepared_of file secret q) share offset bytes)
      → (bytes ≡ piece_of (encoding_of file secret q).shares share offset (length bytes)) ⊎ HaveClash (blocks_for file secret q share) given.blocks
  right offset bytes given =
      elim (blocks_or_clash (blocks_of g.needed share segments) given.blocks (given.hashes ∙ leaves_are)) [
        | inl own ↦ inl (given.piece ∙ ap (λ (bs : List (List ℕ)). take (length bytes) (drop offset (share_with (prepared_of file secret q) bs share))) own
            ∙ ap (λ (s : List ℕ). take (length bytes) (drop offset s)) share_is)
        | inr clash ↦ inr clash
      ]

pub pieces_are_right : (file secret : List ℕ) (q : Parameters) (p : PreparedFile) (share offset : ℕ) (bytes : List ℕ) → p ≡ prepared_of file secret q → share < q.total
    → (given : GivesPiece p share offset bytes)
    → (bytes ≡ piece_of (encoding_of file secret q).shares share offset (length bytes)) ⊎ HaveClash (blocks_for file secret q share) given.blocks
pieces_are_right file secret q p share offset bytes is there given =
    right file secret q share there offset bytes record {
      blocks = given.blocks;
      hashes = given.hashes ∙ ap (λ (k : PreparedFile). leaves_of k share) is;
      size = given.size ∙ ap (λ (k : PreparedFile). share_data_size k.geometry) is;
      piece = given.piece ∙ ap (λ (k : PreparedFile). take (length bytes) (drop offset (share_with k given.blocks share))) is;
    }
