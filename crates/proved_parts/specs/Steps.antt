-- The steps of a way to a root.
use Rattle.std.specs.Prelude.{◌≡◌, ◌≢◌, ℕ, ◌%◌, ◌<◌, ◌==◌, List, Some, if◌then◌else◌, slice_get}
use Rattle.tagged_hash.specs.TaggedHash.{tagged_hash}
use Rattle.tagged_hash.specs.declared.tag.Tag.TheVariants.{CiphertextSegment}
use Rattle.merkle.specs.Path.{LeadsBy}
use Rattle.merkle.specs.Inputs.{node_input}
use Rattle.proved_parts.specs.declared.evidence.EvidencePart.{EvidencePart}

-- the hash input of the node above one at this position and its sibling
abbrev pub step_input : ℕ → List ℕ → List ℕ → List ℕ
step_input position node sibling =
    if position % 2 == 0 then node_input node sibling else node_input sibling node

-- no tree has both, by these paths, at one position
abbrev pub NeverMeet : ℕ → List ℕ → List ℕ → List (List ℕ) → List (List ℕ) → Type 0
NeverMeet position first second these those = (count : ℕ) (root : List ℕ)
    → LeadsBy count root position first these → ¬ LeadsBy count root position second those

-- the two parts have one number, and not one segment
pub record Differ (p q : EvidencePart) : Type 0 where
  pub number : p.number ≡ q.number
  pub segment : p.segment ≢ q.segment

-- each of these parts has a higher number than those before it
abbrev pub Rise : List EvidencePart → Type 0
Rise parts = (i j : ℕ) (p q : EvidencePart) → i < j
    → slice_get parts i ≡ Some p → slice_get parts j ≡ Some q → p.number < q.number

-- no tree has both parts
abbrev pub PartsNeverMeet : EvidencePart → EvidencePart → Type 0
PartsNeverMeet p q = NeverMeet p.number (tagged_hash CiphertextSegment p.segment)
    (tagged_hash CiphertextSegment q.segment) p.path q.path
