use Rattle.std.proofs.Common.{◌≡◌, ℕ, Option, None, Some, rules, subst}
use Rattle.wire.specs.declared.message.Message.{Message}
use Rattle.served_grid.specs.Served.{Brings, ServedState, nothing}
use Rattle.served_grid.proofs.Hearing.{brings_after, heard_before, hears_both}
use Rattle.served_grid.proofs.served.ServedGrid.next_message.Goals as goal

pub returns-in_err-came-clause-err : goal.returns-in_err-came-clause-err
returns-in_err-came-clause-err g c =
    let before : ServedState g.row.S.Denot g.row.L.Denot g.row.W.Denot = record { here = c.self.inside.here; remotes = c.self.inside.remotes.items } in
    let so_far = heard_before g.W.Wire.calls c.args.self.now c.loop.self before c.self.view_is c.loop.invariant in
    let one = hears_both g.W.Wire.calls c.args.self.now before c.hear_in_turn.new.self nothing so_far c.in_err-came.ensures.err in
    search (rules, one)

pub returns-in-Some-2-clause-ok : goal.returns-in-Some-2-clause-ok
returns-in-Some-2-clause-ok g c =
    let before : ServedState g.row.S.Denot g.row.L.Denot g.row.W.Denot = record { here = c.self.inside.here; remotes = c.self.inside.remotes.items } in
    let so_far = heard_before g.W.Wire.calls c.args.self.now c.loop.self before c.self.view_is c.loop.invariant in
    brings_after g.W.Wire.calls c.args.self.now before c.hear_in_turn.new.self (Some c.in-Some-2.came) so_far
    (subst (λ (o : Option (ℕ × Message)). Brings g.W.Wire.calls before o c.hear_in_turn.new.self) c.in-Some-2.is c.in_ok-came.ensures.ok)

pub loop-preserved : goal.loop-preserved
loop-preserved g c =
    let before : ServedState g.row.S.Denot g.row.L.Denot g.row.W.Denot = record { here = c.self.inside.here; remotes = c.self.inside.remotes.items } in
    let so_far = heard_before g.W.Wire.calls c.args.self.now c.loop.self before c.self.view_is c.loop.invariant in
    let none : c.in_ok-came.field-0 ≡ None = search rules in
    brings_after g.W.Wire.calls c.args.self.now before c.hear_in_turn.new.self None so_far
    (subst (λ (o : Option (ℕ × Message)). Brings g.W.Wire.calls before o c.hear_in_turn.new.self) none c.in_ok-came.ensures.ok)
