use Rattle.std.proofs.Common.{refl, subst}
use Rattle.grid_lists.specs.Ends.{IsEarlier}
use Rattle.grid_lists.specs.Puts.{unread}
use Rattle.grid_lists.proofs.putting.put_begun.Goals as goal

pub returns-clause-done : goal.returns-clause-done
returns-clause-done g c =
    let told = subst (IsEarlier c.args.words.now) c.in-Unread.is c.in_ok-since.ensures in
    unread told.0 told.1 told.2 refl refl
