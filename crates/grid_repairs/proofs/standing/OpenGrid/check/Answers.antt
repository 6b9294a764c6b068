use Rattle.std.proofs.Common.{IfOk, refl, subst, sym, ℕ}
use Rattle.grid_servers.specs.Grids.{grid_calls}
use Rattle.grid_repairs.specs.Checks.{AreCheckedTo, IsCheckedAt, Standing}
use Rattle.grid_repairs.proofs.StandingLemmas.{checked_at, led_to}
use Rattle.grid_repairs.proofs.Told.{led_ok, told_ok}
use Rattle.grid_repairs.proofs.standing.OpenGrid.check.Goals as goal

pub returns-clause-found : goal.returns-clause-found
returns-clause-found g c =
    let calls = grid_calls g.R.Stream.Write.contents g.R.Stream.Read.remaining in
    subst (λ (s : Standing _). IfOk c.ok_or.result (IsCheckedAt calls c.args.cap s)) c.self.view_is
    (told_ok c.in_ok-report.field-0 _ c.ok_or.result _ _ c.ok_or.ensures.value
    (λ r report. checked_at calls c.args.cap _ c.in_ok-check.check c.in_ok-check-2.check _ _ _ _ c.as_slice-servers.ensures.value refl c.clock-now.ensures
    c.in_ok-check.ensures.begins c.in_ok-check-2.ensures r report)
    c.in_ok-report.ensures.report)

pub returns-clause-led : goal.returns-clause-led
returns-clause-led g c =
    let calls = grid_calls g.R.Stream.Write.contents g.R.Stream.Read.remaining in
    let s = c.self.inside in
    let old : Standing _ = record { servers = s.servers.items; grid = s.nodes; session = s.session } in
    let new : Standing _ = record { servers = s.servers.items; grid = c.carry.new.nodes; session = c.saturating_add-self-inside.result } in
    subst (λ (o : Standing _). IfOk c.ok_or.result (λ _. AreCheckedTo calls o new)) c.self.view_is
    (led_ok c.ok_or.result _
    (subst (λ (n : ℕ). AreCheckedTo calls old (record { servers = s.servers.items; grid = c.carry.new.nodes; session = n })) (sym c.saturating_add-self-inside.ensures)
    (led_to calls c.args.cap old c.in_ok-check.check c.in_ok-check-2.check c.carry.new.nodes _ _ _ c.as_slice-servers.ensures.value refl c.clock-now.ensures c.in_ok-check.ensures.begins c.in_ok-check-2.ensures)))
