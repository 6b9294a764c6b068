use Rattle.std.proofs.Common.{◌==◌, ◌&&◌, IfSome, Option, List, ℕ, length, ◌∙◌, ap, subst, sym}
use Rattle.std.specs.Prelude.{is_some}
use Rattle.upload_core.specs.State.{Goal}
use Rattle.grid_servers.specs.Grids.{grid_calls}
use Rattle.grid_servers.specs.Servers.{servers_without}
use Rattle.grid_shares.specs.Standing.{Standing, WereOpened}
use Rattle.grid_shares.specs.Ways.{AreCleared}
use Rattle.grid_shares.proofs.Placed.{used_as}
use Rattle.grid_shares.proofs.StandingLemmas.{kept_open}
use Rattle.grid_shares.proofs.placing.place_shares.Goals as goal

pub returns-clause-placed : goal.returns-clause-placed
returns-clause-placed g c = record {
  stuck = c.in_ok-clearance.clearance.stuck.items;
  still = c.in_ok-clearance.clearance.is_still;
  cleared = subst (λ (aim : Goal). AreCleared aim c.args.placing.now.mend c.args.reading.now c.args.placing.now.servers.now c.in_ok-clearance.clearance.stuck.items c.in_ok-clearance.clearance.is_still) c.goal.ensures c.in_ok-clearance.ensures.cleared;
  none = c.is_empty-is_cleared.ensures ∙ ap (λ (xs : List ℕ). length xs == 0) c.as_slice-2.ensures.value;
  before = c.in_ok-standing.standing.grid;
  opened = c.in_ok-standing.ensures.opened;
  anew = λ is. (c.args.placing.now.durability, c.in_ok-standing.ensures.anew (ap (λ (o : Option (Standing _)). is_some o && c.in_ok-clearance.clearance.is_still) (c.in_ok-clearance.ensures.held ∙ c.take-held.ensures.value) ∙ is));
  session = c.in_ok-standing.standing.session;
  uploaded = used_as _ _ c.in_ok-standing.standing.grid c.in_ok-standing.standing.session c.as_slice-4.result.now c.args.ready c.in_ok-happiness.happiness (servers_without c.args.placing.now.servers.now c.in_ok-clearance.clearance.stuck.items)
      (c.as_slice-4.ensures.value ∙ c.in_ok-servers.ensures.left ∙ ap (servers_without c.args.placing.now.servers.now) c.as_slice.ensures.value) c.in_ok-happiness.ensures.uploaded;
}

pub returns-clause-kept : goal.returns-clause-kept
returns-clause-kept g c = kept_open _ c.speaking.result c.args.placing.now.grid.now _ c.speaking.ensures (c.in_ok-happiness.ensures.opened c.args.placing.now.grid.now c.in_ok-standing.ensures.opened)

-- none are held
pub returns-in_err-happiness-clause-kept : goal.returns-in_err-happiness-clause-kept
returns-in_err-happiness-clause-kept g c =
    subst (λ (o : Option (Standing _)). IfSome o (λ s. WereOpened (grid_calls g.R.Stream.Write.contents g.R.Stream.Read.remaining) c.args.placing.now.grid.now s.grid)) (sym c.take-held.ensures.after) tt
