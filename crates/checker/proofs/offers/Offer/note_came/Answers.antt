use Rattle.std.proofs.Common.{refl}
use Rattle.lemmas.proofs.Positions.{got}
use Rattle.checker.specs.Wanted.{came_for}
use Rattle.checker.proofs.HearingLemmas.{noted_at}
use Rattle.checker.proofs.offers.Offer.note_came.Goals as goal

pub returns : goal.returns
returns c =
    let o = c.args.self.now in
    noted_at o _ c.args.piece c.index_mut.result.now c.of.result (came_for c.args.bytes) (got o.wanted.items c.args.piece c.index_mut.result.now c.requires c.index_mut.ensures.value) c.of.ensures refl
