use Rattle.std.proofs.Common.{◌≡◌, ◌∙◌, ◌*◌, ◌+◌, ◌<◌, ◌≤◌, inl, inr, ℕ, List, length, ap, arith, subst, sym, true≢false, slice_set, Err, rules}
use Rattle.std.proofs.lemmas.Bool.{cases_lt}
use Rattle.merkle.specs.Partial.{IsNotConsistent}
use Rattle.download_parts.specs.Plan.{nodes_of}
use Rattle.download_parts.specs.Offers.{nodes_offered}
use Rattle.download_parts.specs.declared.error.TreeFault.TheVariants as faults
use Rattle.download_parts.specs.declared.part.Nodes.{Nodes}
use Rattle.download_parts.specs.declared.part.Part.{Part}
use Rattle.download_parts.specs.declared.part.Part.TheVariants.{CiphertextTree}
use Rattle.share_layout.specs.Geometry.{Geometry}
use Rattle.download_supply.specs.Cursors.{cursor_at}
use Rattle.download_supply.specs.Taking.{IsDue}
use Rattle.download_file.specs.Steps.{TakesPart}
use Rattle.download_file.specs.Taking.{RefutesPart}
use Rattle.download_file.proofs.TakingLemmas.{passed_ciphertext, read_long, took_ciphertext}
use Rattle.download_file.proofs.taking.take_ciphertext.Goals as goal

pub was_taken-requires : goal.was_taken-requires
was_taken-requires c =
    let r = c.args.reader.now in
    let due : IsDue r.supply (CiphertextTree c.args.piece.now) = subst (λ (q : Part). IsDue r.supply q) c.requires.part c.requires.taker.due in
    let level = due.next.level in
    let three = c.requires.taker.supply.taken_levels.ciphertext_tree in
    omega (arith, level, three)

pub returns-then-was_taken-clause-taken : goal.returns-then-was_taken-clause-taken
returns-then-was_taken-clause-taken c =
    let h = c.args.handout.now in
    let r = c.args.reader.now in
    let a = c.args.plan.now.first in
    let b = c.args.plan.now.end in
    let w = c.args.first.now in
    let p = c.args.piece.now in
    let taken : List ℕ = c.args.taken.now in
    subst (λ (q : Part). TakesPart h r taken a b q w.position h c.pass_over.new.reader taken) (sym c.requires.part)
    (passed_ciphertext h r taken a b w c.requires.taker c.pass_over.new.reader p
    c.pass_over.ensures.taken c.pass_over.ensures.right (c.was_taken.ensures.0 c.if-was_taken.true))

pub returns-clause-taken : goal.returns-clause-taken
returns-clause-taken c =
    let h = c.args.handout.now in
    let r = c.args.reader.now in
    let a = c.args.plan.now.first in
    let b = c.args.plan.now.end in
    let w = c.args.first.now in
    let p = c.args.piece.now in
    let taken : List ℕ = c.args.taken.now in
    let these : c.nodes-nodes.result ≡ nodes_of h.geometry a b p = c.nodes-nodes.ensures.value ∙ ap (λ (g : Geometry). nodes_of g a b p) c.requires.plan in
    let long : length c.args.bytes.now ≡ 32 * c.nodes-nodes.result.count = read_long h r taken a b w c.requires.taker p c.args.bytes.now c.nodes-nodes.result c.requires.part c.requires.long these in
    let high : cursor_at taken p.level ≤ p.index = elim (cases_lt p.index (cursor_at taken p.level)) [
      | inl low ↦ absurd (true≢false (sym (c.was_taken.ensures.1 low) ∙ c.if-was_taken.false))
      | inr k ↦ k
    ] in
    subst (λ (q : Part). TakesPart h r taken a b q w.position c.take_nodes.new.self c.take_ciphertext.new.self (slice_set taken p.level (p.index + 1))) (sym c.requires.part)
    (took_ciphertext h r taken a b w c.requires.taker c.take_nodes.new.self c.take_ciphertext.new.self p c.nodes-nodes.result c.args.bytes.now
    c.in_ok-take_nodes.ensures.others c.in_ok-take_nodes.ensures.right c.in_ok-take_nodes.ensures.grow these long c.in_ok-take_nodes.ensures.taken c.take_ciphertext.ensures.taken c.take_ciphertext.ensures.right high)

pub returns-in_err-take_nodes-clause-refused : goal.returns-in_err-take_nodes-clause-refused
returns-in_err-take_nodes-clause-refused c = λ check is.
    let h = c.args.handout.now in
    let r = c.args.reader.now in
    let a = c.args.plan.now.first in
    let b = c.args.plan.now.end in
    let p = c.args.piece.now in
    let same : c.in_err-take_nodes.field-0.0 ≡ faults.Check check = search rules in
    let k = c.in_err-take_nodes.ensures.refused check (ap Err same) in
    let these : c.nodes-nodes.result ≡ nodes_of h.geometry a b p = c.nodes-nodes.ensures.value ∙ ap (λ (g : Geometry). nodes_of g a b p) c.requires.plan in
    subst (λ (q : Part). RefutesPart h a b r q c.args.bytes.now check) (sym c.requires.part)
    (k.0, subst (λ (n : Nodes). IsNotConsistent h.trees.ciphertext (nodes_offered n c.args.bytes.now)) these k.1)
