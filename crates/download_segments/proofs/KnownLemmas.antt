-- Segments whose hashes are known: the siblings that prove them are known nodes.
use Rattle.std.proofs.Common.{◌≡◌, ◌⊎◌, ℕ, ◌<◌, inl, inr, List, length, Contains, ap, subst, sym, ◌∙◌}
use Rattle.lemmas.proofs.Members.{contains_cases}
use Rattle.tagged_hash.specs.TaggedHash.{tagged_hash, tagged_input}
use Rattle.tagged_hash.specs.declared.tag.Tag.TheVariants.{CiphertextSegment}
use Rattle.merkle.specs.Inputs.{path_inputs}
use Rattle.merkle.specs.Known.{IsKnownInput}
use Rattle.merkle.specs.Partial.{PartialState, known_siblings}
use Rattle.merkle.proofs.KnownLemmas.{known_paths}
use Rattle.merkle.proofs.StateLemmas.{known-lead}
use Rattle.share_layout.specs.Geometry.{Geometry, segment_count}
use Rattle.share_layout.specs.Pieces.{segment_length}
use Rattle.proved_parts.specs.Evidence.{segment_inputs}
use Rattle.proved_parts.specs.Parts.{IsSegmentBy}
use Rattle.download_segments.specs.State.{HandoutState, IsHandout, ProvesSegment}
use Rattle.download_segments.proofs.LawLemmas.{leaf_leads}

module _ (h : HandoutState) (number : ℕ) (segment : List ℕ) (k : IsHandout h) (there : number < segment_count h.geometry) (proves : ProvesSegment h number segment) where
  abbrev tree : PartialState
  tree = h.trees.ciphertext

  abbrev leaf : List ℕ
  leaf = tagged_hash CiphertextSegment segment

  inside : number < tree.leaf_count
  inside = subst (λ (n : ℕ). number < n) (sym (ap segment_count k.roots.geometry) ∙ sym k.trees.ciphertext.leaves) there

  pub known_segment : IsSegmentBy h.ueb number segment (known_siblings tree number)
  known_segment = record {
    there = subst (λ (g : Geometry). number < segment_count g) k.geometry there;
    size = subst (λ (g : Geometry). length segment ≡ segment_length g number) k.geometry proves.size;
    hashes = (leaf_leads h number leaf k there proves.known).hashes;
    path = (leaf_leads h number leaf k there proves.known).leads;
  }

  -- what is hashed for it
  pub known_inputs : (input : List ℕ) → Contains (segment_inputs number segment (known_siblings tree number)) input
      → (tagged_input CiphertextSegment segment ≡ input) ⊎ IsKnownInput tree input
  known_inputs input among =
      elim (contains_cases (tagged_input CiphertextSegment segment) input (path_inputs (length (known_siblings tree number)) number leaf (known_siblings tree number)) among) [
        | inl is ↦ inl is
        | inr rest ↦ inr (known_paths tree number leaf input k.trees.ciphertext.sound inside proves.known
            (subst (λ (n : ℕ). Contains (path_inputs n number leaf (known_siblings tree number)) input) (known-lead tree number leaf k.trees.ciphertext.sound inside proves.known).1 rest))
      ]
