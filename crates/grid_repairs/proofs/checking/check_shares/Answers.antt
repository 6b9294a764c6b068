use Rattle.std.proofs.Common.{IfSome, Option, subst, sym}
use Rattle.std.specs.Prelude.{is_some}
use Rattle.grid_servers.specs.Grids.{grid_calls}
use Rattle.grid_repairs.specs.Checks.{Standing, WereChecked}
use Rattle.grid_repairs.proofs.StandingLemmas.{checked_by, checked_more, stands_distinct}
use Rattle.grid_repairs.proofs.checking.check_shares.Goals as goal

pub find_shares-requires : goal.find_shares-requires
find_shares-requires g c = stands_distinct _ c.args.place.now.grid.now (is_some c.args.kept.now) c.in_ok-open.open c.in_ok-open.ensures.stand

pub returns-clause-found : goal.returns-clause-found
returns-clause-found g c = checked_by _ c.args.place.now.grid.now (is_some c.args.kept.now) c.args.cap c.in_ok-report.report c.in_ok-open.open c.in_ok-open.ensures.stand c.in_ok-report.ensures.found

pub returns-clause-kept : goal.returns-clause-kept
returns-clause-kept g c = checked_more _ c.args.place.now.grid.now (is_some c.args.kept.now) c.in_ok-open.open c.find_shares.new.standing c.still_speaking.result c.in_ok-open.ensures.stand c.in_ok-report.ensures.led c.still_speaking.ensures

-- none are kept
pub returns-in_err-open-clause-kept : goal.returns-in_err-open-clause-kept
returns-in_err-open-clause-kept g c =
    subst (λ (o : Option (Standing _)). IfSome o (WereChecked (grid_calls g.R.Stream.Write.contents g.R.Stream.Read.remaining) c.args.place.now.grid.now)) (sym c.take.ensures.kept) tt

pub returns-in_err-report-clause-kept : goal.returns-in_err-report-clause-kept
returns-in_err-report-clause-kept g c =
    subst (λ (o : Option (Standing _)). IfSome o (WereChecked (grid_calls g.R.Stream.Write.contents g.R.Stream.Read.remaining) c.args.place.now.grid.now)) (sym c.take.ensures.kept) tt
