-- What own evidence hashes is hashed for the encoding.
use Rattle.std.proofs.Common.{◌≡◌, ℕ, suc, List, [], ◌∷◌, length, map, inl, inr, subst, arith}
use Rattle.std.specs.Prelude.{All, Contains, slice_index_or}
use Rattle.std.specs.List.{flat_map}
use Rattle.std.proofs.lemmas.List.Elements.{Contains-append_cases, Contains-append_left}
use Rattle.lemmas.proofs.Members.{contains_cases}
use Rattle.aes_ctr.specs.CounterMode.{xored}
use Rattle.merkle.specs.Inputs.{AreAmong}
use Rattle.tagged_hash.specs.ConvergentKey.{convergent_key_of, key_input}
use Rattle.tagged_hash.specs.TaggedHash.{tagged_input}
use Rattle.tagged_hash.specs.declared.tag.Tag.TheVariants.{ExtensionBlock, StorageIndex, WholeShare}
use Rattle.share_layout.specs.Geometry.{geometry_of}
use Rattle.share_layout.specs.Pieces.{segments_of}
use Rattle.merkle.proofs.InputLemmas.{member_there}
use Rattle.proved_parts.specs.Evidence.{segment_inputs}
use Rattle.proved_parts.specs.declared.evidence.EvidencePart.{EvidencePart}
use Rattle.proved_parts.proofs.OwnParts.{own_parts_are_within}
use Rattle.file_encoding.specs.Inputs.{ciphertext_inputs, encoding_inputs}
use Rattle.file_encoding.specs.Encoding.{Parameters, encoding_of}
use Rattle.file_encoding.specs.Parts.{OwnEvidenceIsWithin, OwnTreesAreWithin}
use Rattle.file_encoding.proofs.BoundOwn.{block_among, segments_among}

-- what all parts hash is among some inputs where what each of them does is
flat_among : (inputs : List (List ℕ)) (f : EvidencePart → List (List ℕ)) (ps : List EvidencePart)
    → All (λ (p : EvidencePart). AreAmong inputs (f p)) ps → AreAmong inputs (flat_map f ps)
flat_among inputs f [] all input c = absurd (omega (arith, c.1))
flat_among inputs f (p ∷ ps) all input c =
    elim (Contains-append_cases (f p) (flat_map f ps) input c) [
      | inl here ↦ all 0 p (omega arith) input here
      | inr rest ↦ flat_among inputs f ps (λ k d low. all (suc k) d (omega (arith, low))) input rest
    ]

-- the ciphertext's own inputs are among those of its file's encoding
pub ciphertext_among : (file secret : List ℕ) (p : Parameters) → let g = geometry_of (length file) p.needed p.total p.max_segment in
    AreAmong (encoding_inputs file secret p) (ciphertext_inputs g (xored (convergent_key_of p.needed p.total g.segment_size secret file) file))
ciphertext_among file secret p input c =
    let g = geometry_of (length file) p.needed p.total p.max_segment in
    let key = convergent_key_of p.needed p.total g.segment_size secret file in
    let ciphertext = xored key file in
    Contains-append_left (key_input p.needed p.total g.segment_size secret file ∷ tagged_input StorageIndex key ∷ ciphertext_inputs g ciphertext)
    (map (tagged_input WholeShare) (encoding_of file secret p).shares) input
    (member_there (key_input p.needed p.total g.segment_size secret file) input (tagged_input StorageIndex key ∷ ciphertext_inputs g ciphertext)
    (member_there (tagged_input StorageIndex key) input (ciphertext_inputs g ciphertext) c))

pub own_trees_are_within : OwnTreesAreWithin
own_trees_are_within file secret p =
    let g = geometry_of (length file) p.needed p.total p.max_segment in
    let ciphertext = xored (convergent_key_of p.needed p.total g.segment_size secret file) file in
    let all : List ℕ → Type 0 = Contains (encoding_inputs file secret p) in
    (block_among g ciphertext all (ciphertext_among file secret p), segments_among g ciphertext all (ciphertext_among file secret p))

pub own_evidence_is_within : OwnEvidenceIsWithin
own_evidence_is_within file secret p e own =
    let g = geometry_of (length file) p.needed p.total p.max_segment in
    let key = convergent_key_of p.needed p.total g.segment_size secret file in
    let ciphertext = xored key file in
    let segments : List (List ℕ) = segments_of g ciphertext in
    let up : AreAmong (encoding_inputs file secret p) (ciphertext_inputs g ciphertext) = ciphertext_among file secret p in
    let part : All (λ (q : EvidencePart). AreAmong (encoding_inputs file secret p) (segment_inputs q.number q.segment q.path)) e.parts =
    (λ k d low input c.
    let q : EvidencePart = slice_index_or e.parts k d in
    segments_among g ciphertext (Contains (encoding_inputs file secret p)) up input
    (own_parts_are_within g ciphertext q.number (own.there k d low) input
    (subst (λ (T : Type 0). T) (λ i. Contains (segment_inputs q.number (own.segments k d low i) (own.paths k d low i)) input) c))) in
    λ input c.
    elim (contains_cases _ input _ c) [
      | inl is ↦
          subst (Contains (encoding_inputs file secret p)) (subst (λ (b : List ℕ). tagged_input ExtensionBlock b ≡ input) own.block is)
          (block_among g ciphertext (Contains (encoding_inputs file secret p)) up)
      | inr rest ↦ flat_among (encoding_inputs file secret p) (λ (q : EvidencePart). segment_inputs q.number q.segment q.path) e.parts part input rest
    ]
