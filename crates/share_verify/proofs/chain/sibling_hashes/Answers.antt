use Rattle.std.proofs.Common.{inl, inr, Some, [], ◌≡◌, ℕ, sym, ◌∙◌, ap, arith}
use Rattle.std.proofs.lemmas.Bool.{cases_eq}
use Rattle.std.proofs.lemmas.List.{get_or-set_other, get_or-set_same, length-set}
use Rattle.merkle.specs.Tree.{sibling_number}
use Rattle.share_verify.specs.ShareHashes.{carried_hash}
use Rattle.share_verify.proofs.chain.sibling_hashes.Goals as goal

pub loop-i-preserved : goal.loop-i-preserved
loop-i-preserved c =
    let i = c.loop-i.i in
    let entries = c.args.entries.now in
    let siblings = c.loop-i.siblings in
    let hash = c.in-Some.hash in
    let here : carried_hash entries (sibling_number c.args.height c.args.leaf i) ≡ Some hash =
    ap (λ (n : ℕ). carried_hash entries n)
    (ap (λ (leaf : ℕ). sibling_number c.args.height leaf i) (sym c.from.ensures) ∙ sym c.sibling_number-number.ensures.value)
    ∙ sym c.carried_hash.ensures
    ∙ c.in-Some.is in
    record {
      size = length-set siblings i hash ∙ c.loop-i.invariant.size;
      found = λ k below.
          elim (cases_eq k i) [
            | inl same ↦ rw same (here ∙ ap Some (sym (get_or-set_same siblings i hash [] (omega (arith, c.loop-i.invariant.size)))))
            | inr other ↦
                c.loop-i.invariant.found k (omega arith)
                ∙ ap Some (sym (get_or-set_other siblings i k hash [] other))
          ];
    }
