-- Eight segments in a row.
use Rattle.std.proofs.Common.{◌≡◌, ℕ, ◌+◌, ◌*◌, ◌<◌, ◌≤◌, inl, inr, List, Some, sym, ap, subst, ◌∙◌, add-mul, arith}
use Rattle.std.specs.Prelude.{slice_get}
use Rattle.std.proofs.Math.Nat.{mul-le-mul_right}
use Rattle.std.proofs.lemmas.Bool.{cases_lt}
use Rattle.std.specs.Prelude.{IsSome}
use Rattle.lemmas.proofs.Options.{one_there}
use Rattle.download_supply.specs.Taking.{IsProved}
use Rattle.download_segments.specs.State.{HandoutState}
use Rattle.download_segments.specs.GroupMaking.{nth_block}
use Rattle.download_file.specs.State.{ReaderState}
use Rattle.download_file.specs.Steps.{AreProved, HasAll, LacksSome}
use Rattle.download_file.specs.Steps.LacksSome.{lacks_block, lacks_hash, lacks_readers}

-- a block has room among as many
pub room_for : (k count size long : ℕ) → k < count → long ≡ count * size → k * size + size ≤ long
room_for k count size long low is =
    let one : (k + 1) * size ≡ k * size + size = omega (arith, add-mul k 1 size) in
    let less = mul-le-mul_right size (let l : k + 1 ≤ count = omega (arith, low) in l) in
    omega (arith, one, less, is)

-- what a segment lacks, it has not
pub lacks_not : (h : HandoutState) (readers : List ReaderState) (live : List ℕ) (number : ℕ) → LacksSome h readers live number → HasAll h readers live number → ⊥
lacks_not h readers live number (lacks_readers few) all = few all.enough
lacks_not h readers live number (lacks_hash none) all = let known = subst IsSome none all.known in cc
lacks_not h readers live number (lacks_block b) all = b.not (all.ready b.position b.r b.among b.there)

-- one reader more has its block
pub proved_more : (readers : List ReaderState) (positions : List ℕ) (number : ℕ) (joined : List ℕ) (len k position : ℕ) (r : ReaderState) → slice_get positions k ≡ Some position
    → slice_get readers position ≡ Some r → IsProved r.supply number (nth_block joined len k) → AreProved readers positions number joined len k
    → AreProved readers positions number joined len (k + 1)
proved_more readers positions number joined len k position r at there proved all j other s low is is_there =
    elim (cases_lt j k) [
      | inl before ↦ all j other s before is is_there
      | inr not ↦
          let same : j ≡ k = omega (arith, low, not) in
          let one : position ≡ other = one_there (slice_get positions k) position other at (sym (ap (slice_get positions) same) ∙ is) in
          let reader : r ≡ s = one_there (slice_get readers position) r s there (ap (slice_get readers) one ∙ is_there) in
          subst (λ (t : ReaderState). IsProved t.supply number (nth_block joined len j)) reader
          (subst (λ (n : ℕ). IsProved r.supply number (nth_block joined len n)) (sym same) proved)
    ]
