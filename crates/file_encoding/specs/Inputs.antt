-- What the encoding of a file hashes.
use Rattle.std.specs.Prelude.{ℕ, List, ◌∷◌, ◌++◌, length, map}
use Rattle.std.specs.List.{flat_map, range_with_len}
use Rattle.aes_ctr.specs.CounterMode.{xored}
use Rattle.merkle.specs.Inputs.{tree_inputs}
use Rattle.tagged_hash.specs.ConvergentKey.{convergent_key_of, key_input}
use Rattle.tagged_hash.specs.TaggedHash.{tagged_input}
use Rattle.tagged_hash.specs.declared.tag.Tag.TheVariants.{Block, Ciphertext, ExtensionBlock}
use Rattle.tagged_hash.specs.declared.tag.Tag.TheVariants.{StorageIndex, WholeShare}
use Rattle.ueb.specs.Block.{ueb_text}
use Rattle.share_layout.specs.Geometry.{Geometry, geometry_of}
use Rattle.share_layout.specs.Pieces.{segments_of}
use Rattle.share_verify.specs.Pieces.{block_hashes}
use Rattle.proved_parts.specs.Evidence.{segments_inputs}
use Rattle.file_encoding.specs.Encoding.{Parameters, blocks_of, encoding_of}
use Rattle.file_encoding.specs.Encoding.{extension_block_contents, share_leaves}

-- the blocks of a share, and its block tree
abbrev pub blocks_inputs : List (List ℕ) → List (List ℕ)
blocks_inputs blocks = map (tagged_input Block) blocks ++ tree_inputs (block_hashes blocks)

-- a ciphertext, its extension block, its segments and its trees
abbrev pub ciphertext_inputs : Geometry → List ℕ → List (List ℕ)
ciphertext_inputs g ciphertext =
    let segments = segments_of g ciphertext in
    tagged_input Ciphertext ciphertext
    ∷ tagged_input ExtensionBlock (ueb_text (extension_block_contents g ciphertext segments))
    ∷ segments_inputs segments ++ tree_inputs (share_leaves g segments)
    ++ flat_map (λ i. blocks_inputs (blocks_of g.needed i segments)) (range_with_len 0 g.total)

-- a file's key, storage index, ciphertext and whole shares
abbrev pub encoding_inputs : List ℕ → List ℕ → Parameters → List (List ℕ)
encoding_inputs file secret p =
    let g = geometry_of (length file) p.needed p.total p.max_segment in
    let key = convergent_key_of p.needed p.total g.segment_size secret file in
    key_input p.needed p.total g.segment_size secret file ∷ tagged_input StorageIndex key
    ∷ ciphertext_inputs g (xored key file)
    ++ map (tagged_input WholeShare) (encoding_of file secret p).shares
