-- The shares of an encoding pass.
use Rattle.std.specs.Prelude.{◌≡◌, ℕ, ◌<◌, ◌≤◌, ◌^◌, List, [], length, slice_index_or}
use Rattle.merkle.specs.Tree.{tree_root}
use Rattle.cap_text.specs.Cap.{VerifyCapValue, verify_cap_of}
use Rattle.ueb.specs.Block.{ueb_text}
use Rattle.ueb.specs.Shape.{Contents, IsShape}
use Rattle.share_layout.specs.Geometry.{Geometry, geometry_of}
use Rattle.share_verify.specs.CapBlock.{IsUebFor, geometry_by}
use Rattle.proved_parts.specs.FileOf.{segment_hashes}
use Rattle.share_verify.specs.Verify.{IsSound, IsSoundShare}
use Rattle.file_encoding.specs.Encoding.{Parameters, ciphertext_encoding, encoding_of}
use Rattle.file_encoding.specs.Encoding.{extension_block_contents, sections_of, share_leaves}
use Rattle.file_encoding.specs.Encoding.{share_of}
use Rattle.share_layout.specs.Pieces.{segments_of}

-- a law: each share of a ciphertext's encoding is sound for the encoding's verify cap and its own
-- number
abbrev pub CiphertextSharesPass : Type 0
CiphertextSharesPass = (g : Geometry) (key ciphertext : List ℕ)
    → IsShape g.needed g.total g.size g.segment_size → length ciphertext ≡ g.size
    → (i : ℕ) → i < g.total
    → let segments = segments_of g ciphertext in
    let u = extension_block_contents g ciphertext segments in
    IsSound (verify_cap_of (ciphertext_encoding g key ciphertext).cap) i
    (slice_index_or (ciphertext_encoding g key ciphertext).shares i []) u
    (sections_of g segments (ueb_text u) i)

-- a law: so is each share of a file's encoding, whatever the secret
abbrev pub FileSharesPass : Type 0
FileSharesPass = (file secret : List ℕ) (p : Parameters)
    → IsShape p.needed p.total (length file)
    (geometry_of (length file) p.needed p.total p.max_segment).segment_size
    → (i : ℕ) → i < p.total
    → IsSoundShare (verify_cap_of (encoding_of file secret p).cap) i
    (slice_index_or (encoding_of file secret p).shares i [])

-- a law: so is each share made of a ciphertext and an extension block that a cap accepts, where
-- that tells the roots computed from the ciphertext
abbrev pub AcceptedSharesPass : Type 0
AcceptedSharesPass = (cap : VerifyCapValue) (extension_block : List ℕ) (u : Contents)
    (ciphertext : List ℕ) → IsUebFor cap extension_block u → length ciphertext ≡ u.size
    → let g = geometry_by u in
    let segments = segments_of g ciphertext in
    u.crypttext_root_hash ≡ tree_root (segment_hashes segments)
    → u.share_root_hash ≡ tree_root (share_leaves g segments)
    → (i : ℕ) → i < u.total_shares
    → IsSound cap i (share_of g segments extension_block i) u
    (sections_of g segments extension_block i)

-- a law: all shares of a file's encoding have one length
abbrev pub SharesHaveOneLength : Type 0
SharesHaveOneLength = (file secret : List ℕ) (p : Parameters)
    → IsShape p.needed p.total (length file)
    (geometry_of (length file) p.needed p.total p.max_segment).segment_size
    → (i j : ℕ) → i < p.total → j < p.total
    → let shares = (encoding_of file secret p).shares in
    length (slice_index_or shares i []) ≡ length (slice_index_or shares j [])

-- a law: each share of a file's encoding has some bytes, and at most 2^41
abbrev pub SharesAreNotLong : Type 0
SharesAreNotLong = (file secret : List ℕ) (p : Parameters)
    → IsShape p.needed p.total (length file)
    (geometry_of (length file) p.needed p.total p.max_segment).segment_size
    → (i : ℕ) → i < p.total
    → let share = slice_index_or (encoding_of file secret p).shares i [] in
    (1 ≤ length share) × (length share ≤ 2 ^ 41)
