use Rattle.std.proofs.Common.{◌≡◌, ℕ, Option, None, Some, rules, subst}
use Rattle.wire.specs.declared.message.Message.{Message}
use Rattle.served_grid.specs.Served.{Brings, nothing}
use Rattle.served_grid.proofs.Hearing.{brings_after, heard_before, hears_both, passes}
use Rattle.served_grid.proofs.served.ServedGrid.wait_for_any.Goals as goal

pub returns-then-passed-gt0-clause-ok : goal.returns-then-passed-gt0-clause-ok
returns-then-passed-gt0-clause-ok g c =
    let so_far = heard_before g.W.Wire.calls c.args.self.now c.loop.self c.passed-passed.new.self c.passed-passed.ensures.same c.loop.invariant in
    passes g.W.Wire.calls c.args.self.now c.passed-passed.new.self c.pass.new.self c.pass.result so_far c.pass.ensures.after c.pass.ensures.later_on c.pass.ensures.soon

pub returns-in_err-node-clause-err : goal.returns-in_err-node-clause-err
returns-in_err-node-clause-err g c =
    let so_far = heard_before g.W.Wire.calls c.args.self.now c.loop.self c.passed-passed.new.self c.passed-passed.ensures.same c.loop.invariant in
    let one = hears_both g.W.Wire.calls c.args.self.now c.passed-passed.new.self c.next_message.new.self nothing so_far c.in_err-node.ensures.err in
    search (rules, one)

pub returns-in-Some-clause-ok : goal.returns-in-Some-clause-ok
returns-in-Some-clause-ok g c =
    let so_far = heard_before g.W.Wire.calls c.args.self.now c.loop.self c.passed-passed.new.self c.passed-passed.ensures.same c.loop.invariant in
    let found : c.in_ok-node.field-0 ≡ Some (c.in-Some.node, c.in-Some.message) = search rules in
    brings_after g.W.Wire.calls c.args.self.now c.passed-passed.new.self c.next_message.new.self (Some (c.in-Some.node, c.in-Some.message)) so_far
    (subst (λ (o : Option (ℕ × Message)). Brings g.W.Wire.calls c.passed-passed.new.self o c.next_message.new.self) found c.in_ok-node.ensures.ok)

pub returns-then-not-is_awaited-clause-ok : goal.returns-then-not-is_awaited-clause-ok
returns-then-not-is_awaited-clause-ok g c =
    let so_far = heard_before g.W.Wire.calls c.args.self.now c.loop.self c.passed-passed.new.self c.passed-passed.ensures.same c.loop.invariant in
    let none : c.in_ok-node.field-0 ≡ None = search rules in
    let quiet = brings_after g.W.Wire.calls c.args.self.now c.passed-passed.new.self c.next_message.new.self None so_far
    (subst (λ (o : Option (ℕ × Message)). Brings g.W.Wire.calls c.passed-passed.new.self o c.next_message.new.self) none c.in_ok-node.ensures.ok) in
    passes g.W.Wire.calls c.args.self.now c.next_message.new.self c.pass-then-not-is_awaited.new.self c.pass-then-not-is_awaited.result quiet
    c.pass-then-not-is_awaited.ensures.after c.pass-then-not-is_awaited.ensures.later_on c.pass-then-not-is_awaited.ensures.soon

pub returns-in_err-rest-clause-err : goal.returns-in_err-rest-clause-err
returns-in_err-rest-clause-err g c =
    let so_far = heard_before g.W.Wire.calls c.args.self.now c.loop.self c.passed-passed.new.self c.passed-passed.ensures.same c.loop.invariant in
    let none : c.in_ok-node.field-0 ≡ None = search rules in
    let quiet = brings_after g.W.Wire.calls c.args.self.now c.passed-passed.new.self c.next_message.new.self None so_far
    (subst (λ (o : Option (ℕ × Message)). Brings g.W.Wire.calls c.passed-passed.new.self o c.next_message.new.self) none c.in_ok-node.ensures.ok) in
    let one = heard_before g.W.Wire.calls c.args.self.now c.next_message.new.self c.rest.new.self c.rest.ensures quiet in
    search (rules, one)

pub loop-preserved : goal.loop-preserved
loop-preserved g c =
    let so_far = heard_before g.W.Wire.calls c.args.self.now c.loop.self c.passed-passed.new.self c.passed-passed.ensures.same c.loop.invariant in
    let none : c.in_ok-node.field-0 ≡ None = search rules in
    let quiet = brings_after g.W.Wire.calls c.args.self.now c.passed-passed.new.self c.next_message.new.self None so_far
    (subst (λ (o : Option (ℕ × Message)). Brings g.W.Wire.calls c.passed-passed.new.self o c.next_message.new.self) none c.in_ok-node.ensures.ok) in
    heard_before g.W.Wire.calls c.args.self.now c.next_message.new.self c.rest.new.self c.rest.ensures quiet

pub returns-clause-ok : goal.returns-clause-ok
returns-clause-ok g c =
    passes g.W.Wire.calls c.args.self.now c.loop.self c.pass-2.new.self c.pass-2.result c.loop.invariant c.pass-2.ensures.after c.pass-2.ensures.later_on c.pass-2.ensures.soon
