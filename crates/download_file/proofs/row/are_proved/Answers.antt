use Rattle.std.proofs.Common.{◌≡◌, ◌+◌, ℕ, inl, inr, List, Some, map, ap, subst, sym, ◌∙◌, refl, arith}
use Rattle.std.proofs.lemmas.Bool.{cases_lt, true≢false}
use Rattle.download_supply.specs.Taking.{IsProved, known_hash}
use Rattle.download_segments.specs.GroupMaking.{nth, nth_block}
use Rattle.download_file.proofs.row.are_proved.Goals as goal

pub proves_hash-requires : goal.proves_hash-requires
proves_hash-requires c =
    let position = c.loop-hash.invariant.position in
    let within = c.requires.within in
    let low = c.loop-hash-test.true in
    omega (arith, position, within, low)

pub returns-then-not-proves_hash : goal.returns-then-not-proves_hash
returns-then-not-proves_hash c = (
  λ yes. absurd (true≢false (sym yes)),
  λ all. sym c.if-not-proves_hash.true ∙ c.proves_hash.ensures.1
      (ap (known_hash c.args.supply.now) c.loop-hash.invariant.position ∙ all c.loop-hash.hash-index c.loop-hash-test.true
      ∙ ap Some (sym (c.block_hashes-hashes.ensures c.loop-hash.hash-index c.loop-hash-test.true))),
)

pub loop-hash-preserved : goal.loop-hash-preserved
loop-hash-preserved c =
    let k = c.loop-hash.invariant in
    let n : ℕ = c.loop-hash.hash-index in
    let number : ℕ = c.args.number in
    let rows : List (List ℕ) = map (λ r. r.items) c.args.rows.now in
    let position = k.position in
    let one : IsProved c.args.supply.now (number + n) (nth_block (nth rows n) c.args.size c.args.k) =
    ap (known_hash c.args.supply.now) (sym position) ∙ c.proves_hash.ensures.0 c.if-not-proves_hash.false
    ∙ ap Some (c.block_hashes-hashes.ensures n c.loop-hash-test.true) in
    record {
      position = omega (arith, position);
      proved = λ i below. elim (cases_lt i n) [
        | inl less ↦ k.proved i less
        | inr more ↦
            let same : n ≡ i = omega (arith, below, more) in
            subst (λ (j : ℕ). IsProved c.args.supply.now (number + j) (nth_block (nth rows j) c.args.size c.args.k)) same one
      ];
    }

pub returns : goal.returns
returns c =
    let end = c.loop-hash-test.false in
    (λ _ i low. c.loop-hash.invariant.proved i (omega (arith, end, low)), λ _. refl)
