use Rattle.std.proofs.Common.{◌≡◌, ◌∙◌, ℕ, Some, ap, subst, sym, Err, rules}
use Rattle.download_parts.specs.declared.part.Part.{Part}
use Rattle.download_parts.specs.Trees.{known_leaf}
use Rattle.download_parts.specs.declared.error.TreeFault.TheVariants as faults
use Rattle.download_file.specs.Steps.{TakesPart}
use Rattle.download_file.specs.Taking.{RefutesPart}
use Rattle.download_parts.specs.Refusal.{IsHashesRefusal}
use Rattle.download_file.proofs.TakingLemmas.{took_hashes}
use Rattle.download_file.proofs.taking.take_hashes.Goals as goal

pub returns-in_err-tree-clause-refused : goal.returns-in_err-tree-clause-refused
returns-in_err-tree-clause-refused c = λ check is.
    let same : c.in_err-tree.field-0.0 ≡ faults.Check check = search rules in
    let share : c.from-share.result ≡ c.args.reader.now.share = c.from-share.ensures ∙ c.share.ensures in
    subst (λ (q : Part). RefutesPart c.args.handout.now c.args.plan.now.first c.args.plan.now.end c.args.reader.now q c.args.bytes.now check) (sym c.requires.part)
    (subst (λ (n : ℕ). IsHashesRefusal c.args.handout.now.trees n c.args.bytes.now check) share (c.in_err-tree.ensures.refused check (ap Err same)))

pub returns-clause-taken : goal.returns-clause-taken
returns-clause-taken c = λ taken.
    let h = c.args.handout.now in
    let r = c.args.reader.now in
    let a = c.args.plan.now.first in
    let b = c.args.plan.now.end in
    let w = c.args.first.now in
    let share : c.from-share.result ≡ r.share = c.from-share.ensures ∙ c.share.ensures in
    let root : known_leaf c.take_share_hashes.new.self.trees.shares r.share ≡ Some c.in_ok-tree.tree.root =
    subst (λ (n : ℕ). known_leaf c.take_share_hashes.new.self.trees.shares n ≡ Some c.in_ok-tree.tree.root) share c.in_ok-tree.ensures.root in
    subst (λ (q : Part). TakesPart h r taken a b q w.position c.take_share_hashes.new.self c.take_tree.new.self taken) (sym c.requires.part)
    (took_hashes h r taken a b w c.requires.taker c.take_share_hashes.new.self c.take_tree.new.self c.in_ok-tree.tree c.requires.part
    c.in_ok-tree.ensures.others c.in_ok-tree.ensures.right c.in_ok-tree.ensures.grow c.in_ok-tree.ensures.ciphertext root c.take_tree.ensures.taken c.take_tree.ensures.right)
