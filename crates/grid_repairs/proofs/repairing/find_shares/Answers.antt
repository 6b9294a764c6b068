use Rattle.std.proofs.Common.{IfSome, Option, subst, sym, ◌∙◌}
use Rattle.std.specs.Prelude.{is_some}
use Rattle.grid_servers.specs.Grids.{grid_calls}
use Rattle.grid_repairs.specs.Checks.{Standing, WereChecked}
use Rattle.grid_repairs.proofs.StandingLemmas.{checked_more, stands_distinct}
use Rattle.grid_repairs.proofs.repairing.find_shares.Goals as goal

pub look_at-requires : goal.look_at-requires
look_at-requires g c = stands_distinct _ c.args.place.now.grid.now (is_some c.args.kept.now) c.in_ok-open.open c.in_ok-open.ensures.stand

pub returns-then-report-clause-found : goal.returns-then-report-clause-found
returns-then-report-clause-found g c = (
  record { stood = c.in_ok-open.open; stands = c.in_ok-open.ensures.stand; checked = c.in_ok-report.ensures.found },
  c.in_ok-servers.ensures.items ∙ c.servers.ensures ∙ c.in_ok-report.ensures.led.servers,
)

pub returns-then-report-clause-kept : goal.returns-then-report-clause-kept
returns-then-report-clause-kept g c = checked_more _ c.args.place.now.grid.now (is_some c.args.kept.now) c.in_ok-open.open c.look_at.new.standing c.still_speaking.result c.in_ok-open.ensures.stand c.in_ok-report.ensures.led c.still_speaking.ensures

pub returns-else-report-clause-kept : goal.returns-else-report-clause-kept
returns-else-report-clause-kept g c = checked_more _ c.args.place.now.grid.now (is_some c.args.kept.now) c.in_ok-open.open c.look_at.new.standing c.still_speaking.result c.in_ok-open.ensures.stand c.in_ok-report.ensures.led c.still_speaking.ensures

-- none are kept
pub returns-in_err-open-clause-kept : goal.returns-in_err-open-clause-kept
returns-in_err-open-clause-kept g c =
    subst (λ (o : Option (Standing _)). IfSome o (WereChecked (grid_calls g.R.Stream.Write.contents g.R.Stream.Read.remaining) c.args.place.now.grid.now)) (sym c.take.ensures.kept) tt

pub returns-in_err-report-clause-kept : goal.returns-in_err-report-clause-kept
returns-in_err-report-clause-kept g c =
    subst (λ (o : Option (Standing _)). IfSome o (WereChecked (grid_calls g.R.Stream.Write.contents g.R.Stream.Read.remaining) c.args.place.now.grid.now)) (sym c.take.ensures.kept) tt

pub returns-in_err-servers-clause-kept : goal.returns-in_err-servers-clause-kept
returns-in_err-servers-clause-kept g c =
    subst (λ (o : Option (Standing _)). IfSome o (WereChecked (grid_calls g.R.Stream.Write.contents g.R.Stream.Read.remaining) c.args.place.now.grid.now)) (sym c.take.ensures.kept) tt
