use Rattle.std.proofs.Common.{◌≡◌, ℕ, ◌<◌, ◌≤◌, [], Some, length, get_or, take, ap, rules, subst, sym, ◌∙◌, arith}
use Rattle.merkle.specs.Path.{LeadsBy}
use Rattle.merkle.specs.Tree.{height, node_number}
use Rattle.merkle.specs.Tree.{sibling_number}
use Rattle.share_verify.specs.ShareHashes.{carried_hash}
use Rattle.share_verify.proofs.ShareHashLemmas.{entries_lead, siblings_lead}
use Rattle.share_verify.proofs.chain.leads_by_entries.Goals as goal

pub returns : goal.returns
returns c =
    let total = c.args.total in
    let root = c.args.root.now in
    let leaf = c.args.leaf in
    let hash = c.args.hash.now in
    let entries = c.args.entries.now in
    let siblings = c.in-Some.siblings in
    let same = c.height_of-height.ensures.value in
    let long : height total ≤ length siblings = omega (arith, c.height_of-height.ensures.low, c.in-Some.ensures.size, same) in
    let all = subst (λ (m : ℕ). (i : ℕ) → i < m → carried_hash entries (sibling_number m leaf i) ≡ Some (get_or siblings i [])) same c.in-Some.ensures.all in
    let carries : carried_hash entries c.node_number-own.result ≡ Some hash = search rules in
    let own : carried_hash entries (node_number (height total) leaf) ≡ Some hash =
    ap (carried_hash entries) (ap (λ (m : ℕ). node_number m leaf) (sym same)
    ∙ ap (λ (l : ℕ). node_number c.height_of-height.result l) (sym c.from.ensures) ∙ sym c.node_number-own.ensures.value) ∙ carries in
    let numbers : ℕ → ℕ → ℕ → Type 0 = λ n offset m. LeadsBy n root offset hash (take m siblings) in (
      λ yes. entries_lead total root leaf hash entries siblings long all own
          (subst (λ (m : ℕ). numbers total leaf m) same (subst (λ (offset : ℕ). numbers total offset c.height_of-height.result) c.from-3.ensures (subst (λ (n : ℕ). numbers n c.from-3.result c.height_of-height.result) c.from-2.ensures (c.check_path.ensures.0 yes)))),
      λ held. c.check_path.ensures.1
          (subst (λ (n : ℕ). numbers n c.from-3.result c.height_of-height.result) (sym c.from-2.ensures) (subst (λ (offset : ℕ). numbers total offset c.height_of-height.result) (sym c.from-3.ensures) (subst (λ (m : ℕ). numbers total leaf m) (sym same) (siblings_lead total root leaf hash entries siblings long all held)))),
    )
