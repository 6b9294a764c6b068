use Rattle.std.proofs.Common.{IfSome, Option, ap, subst, sym, true≢false, ◌∙◌}
use Rattle.std.specs.Prelude.{is_some}
use Rattle.std.proofs.lemmas.Bool.{and_from}
use Rattle.std.proofs.lemmas.Result.{IfOk-weaker}
use Rattle.grid_servers.specs.Grids.{grid_calls}
use Rattle.grid_shares.specs.Standing.{Standing, WereOpened}
use Rattle.grid_shares.proofs.StandingLemmas.{opened_now}
use Rattle.grid_shares.proofs.placing.open_for.Goals as goal

pub returns-in-Some-clause-opened : goal.returns-in-Some-clause-opened
returns-in-Some-clause-opened g c =
    subst (λ (held : Option (Standing _)). IfSome held (λ s. WereOpened (grid_calls g.R.Stream.Write.contents g.R.Stream.Read.remaining) c.args.placing.now.grid.now s.grid)) c.in-Some.ensures.held c.requires

pub returns-in-Some-clause-anew : goal.returns-in-Some-clause-anew
returns-in-Some-clause-anew g c = λ touched. absurd (true≢false (sym (and_from _ _ (ap is_some c.in-Some.ensures.held) c.in-Some.ensures.still) ∙ touched))

pub returns-in-None-clause-opened : goal.returns-in-None-clause-opened
returns-in-None-clause-opened g c = IfOk-weaker c.open.result _ _ (λ s is. opened_now _ c.args.placing.now.grid.now s.grid (c.args.placing.now.durability, is)) c.open.ensures
