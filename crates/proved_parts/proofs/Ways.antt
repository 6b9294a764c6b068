-- One step of a way to a root.
use Rattle.std.proofs.Common.{◌≡◌, ℕ, suc, ◌/◌, ◌%◌, ◌^◌, List, [], length, inl, inr, slice_index_or, ap, refl, sym, ◌∙◌, arith}
use Rattle.std.proofs.lemmas.Bool.{cases_eq}
use Rattle.tagged_hash.specs.TaggedHash.{double_sha256}
use Rattle.merkle.specs.Path.{path_root}
use Rattle.merkle.proofs.PathLemmas.{path_root-left, path_root-right}
use Rattle.proved_parts.specs.Steps.{step_input}
use Rattle.merkle.specs.Inputs.{node_input}
use Rattle.merkle.proofs.InputLemmas.{pair_same}

step_even : (position : ℕ) (a s : List ℕ) → position % 2 ≡ 0 → step_input position a s ≡ node_input a s
step_even position a s even = rw even refl

step_odd : (position : ℕ) (a s : List ℕ) → position % 2 ≡ 1 → step_input position a s ≡ node_input s a
step_odd position a s odd = rw odd refl

-- the node one row higher is the hash of the step's input
pub path_step : (t leaf : ℕ) (hash : List ℕ) (siblings : List (List ℕ))
    → path_root (suc t) (leaf % 2 ^ suc t) hash siblings
    ≡ double_sha256 (step_input (leaf / 2 ^ t) (path_root t (leaf % 2 ^ t) hash siblings) (slice_index_or siblings t []))
path_step t leaf hash siblings =
    elim (cases_eq (leaf / 2 ^ t % 2) 0) [
      | inl even ↦ path_root-left t leaf hash siblings even ∙ ap double_sha256 (sym (step_even (leaf / 2 ^ t) _ _ even))
      | inr more ↦
          let odd : leaf / 2 ^ t % 2 ≡ 1 = omega arith in
          path_root-right t leaf hash siblings odd ∙ ap double_sha256 (sym (step_odd (leaf / 2 ^ t) _ _ odd))
    ]

-- the input of a step tells the node
pub step_same : (position : ℕ) (a b s t : List ℕ) → length a ≡ 32 → length b ≡ 32 → length s ≡ 32 → length t ≡ 32
    → step_input position a s ≡ step_input position b t → a ≡ b
step_same position a b s t la lb ls lt e =
    elim (cases_eq (position % 2) 0) [
      | inl even ↦ (pair_same a b s t la lb ls lt (sym (step_even position a s even) ∙ e ∙ step_even position b t even)).0
      | inr more ↦
          let odd : position % 2 ≡ 1 = omega arith in
          (pair_same s t a b ls lt la lb (sym (step_odd position a s odd) ∙ e ∙ step_odd position b t odd)).1
    ]
