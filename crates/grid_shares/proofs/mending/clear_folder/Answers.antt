use Rattle.grid_shares.proofs.WayLemmas.{way_is}
use Rattle.grid_shares.proofs.mending.clear_folder.Goals as goal

pub returns-in-Ok-clause-way : goal.returns-in-Ok-clause-way
returns-in-Ok-clause-way g c = way_is c.args.wanted.now c.in-Ok.cleared c.clear_way.new.files c.way_of.result c.in-Ok.ensures.cleared c.way_of.ensures
