use Rattle.std.proofs.Common.{ap, subst, sym, ◌∙◌}
use Rattle.grid_servers.specs.Opened.{AreOpenedToRead}
use Rattle.carried_operations.specs.Fetched.{FetchedState}
use Rattle.grid_repairs.proofs.repairing.open_shares.Goals as goal

pub returns : goal.returns
returns g c = record {
  opened = subst (λ (s : FetchedState _). AreOpenedToRead c.args.placing.now.grid.now s.outside) (sym c.new.ensures) c.in_ok-nodes.ensures;
  index = ap (λ (s : FetchedState _). s.index) c.new.ensures ∙ c.storage_index-index.ensures.value;
  places_are = ap (λ (s : FetchedState _). s.places) c.new.ensures;
  first = ap (λ (s : FetchedState _). s.session) c.new.ensures;
}
