use Rattle.std.proofs.Common.{◌≡◌, ℕ, ◌*◌, ◌<◌, IfOk, List, length, get_or, subst, sym, ap, ◌∙◌, arith}
use Rattle.merkle.proofs.NumberLemmas.{length-needed_numbers}
use Rattle.merkle.specs.Tree.{height, needed_numbers, tree_nodes}
use Rattle.file_encoding.proofs.Numbers.{needed-inside, nodes-few}
use Rattle.share_gathering.proofs.finishing.write_share_hashes.Goals as goal

pub write_numbered-requires-clause-inside : goal.write_numbered-requires-clause-inside
write_numbered-requires-clause-inside c = λ k d below.
    let leaves : List (List ℕ) = c.args.tree.now in
    let numbers : c.deref.result.now ≡ needed_numbers (height (length leaves)) c.args.share = c.deref.ensures.value ∙ c.in_ok-numbers.ensures.numbers in
    subst (λ (nodes : List (List ℕ)). get_or c.deref.result.now k d < length nodes) (sym c.nodes.ensures)
    (subst (λ (ns : List ℕ). k < length ns → get_or ns k d < length (tree_nodes leaves)) (sym numbers)
    (needed-inside leaves c.args.share k d c.requires.there) below)

pub write_numbered-requires-clause-few : goal.write_numbered-requires-clause-few
write_numbered-requires-clause-few c = omega (arith, nodes-few c.args.tree.now c.requires.few, ap length c.nodes.ensures)

pub returns-clause-long : goal.returns-clause-long
returns-clause-long c =
    let leaves : List (List ℕ) = c.args.tree.now in
    subst (λ (n : ℕ). IfOk c.write_numbered.result (λ hashes. length hashes.items ≡ n))
    (ap (λ (n : ℕ). 34 * n) (ap length (c.deref.ensures.value ∙ c.in_ok-numbers.ensures.numbers) ∙ length-needed_numbers (height (length leaves)) c.args.share)) c.write_numbered.ensures.long
