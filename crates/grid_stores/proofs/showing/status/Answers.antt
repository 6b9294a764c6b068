use Rattle.grid_stores.proofs.StatusLemmas.{shown}
use Rattle.grid_stores.proofs.showing.status.Goals as goal

pub returns : goal.returns
returns g c =
    shown c.args.words.now c.in_ok-found.found c.in_ok-servers.servers.items c.as_slice.result.now c.outcome_of.result c.as_slice.ensures.value c.in_ok-servers.ensures.some c.in_ok-servers.ensures.distinct
    c.in_ok-found.ensures.servers c.in_ok-found.ensures.mark c.in_ok-found.ensures.ways c.outcome_of.ensures.text c.outcome_of.ensures.status
