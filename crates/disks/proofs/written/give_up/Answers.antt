use Rattle.disks.proofs.Writing.{given_moments, given_up, looked_moments, looked_spares}
use Rattle.disks.proofs.written.give_up.Goals as goal

pub returns-in-Ok-Some-eq0-clause-spared : goal.returns-in-Ok-Some-eq0-clause-spared
returns-in-Ok-Some-eq0-clause-spared g c honest begun since =
    given_up begun c.args.own.now c.find.result _ _ _ since (c.find.ensures.gives (c.take_away.ensures.so_far honest)) (c.take_away.ensures.kept honest)

pub returns-in-Ok-Some-eq0-clause-any_moment : goal.returns-in-Ok-Some-eq0-clause-any_moment
returns-in-Ok-Some-eq0-clause-any_moment g c honest begun since =
    let before = c.take_away.ensures.so_far honest in
    given_moments begun c.args.own.now c.find.result _ _ _ _ _ since (c.find.ensures.gives before) (c.find.ensures.passes before) (c.take_away.ensures.any_moment honest)

pub returns-in-Ok-clause-spared : goal.returns-in-Ok-clause-spared
returns-in-Ok-clause-spared g c honest begun since = looked_spares begun c.args.own.now c.find.result _ _ since (c.find.ensures.gives honest)

pub returns-in-Ok-clause-any_moment : goal.returns-in-Ok-clause-any_moment
returns-in-Ok-clause-any_moment g c honest begun since = looked_moments begun c.args.own.now _ _ _ since (c.find.ensures.passes honest)

pub returns-in-Ok-2-clause-spared : goal.returns-in-Ok-2-clause-spared
returns-in-Ok-2-clause-spared g c honest begun since = looked_spares begun c.args.own.now c.find.result _ _ since (c.find.ensures.gives honest)

pub returns-in-Ok-2-clause-any_moment : goal.returns-in-Ok-2-clause-any_moment
returns-in-Ok-2-clause-any_moment g c honest begun since = looked_moments begun c.args.own.now _ _ _ since (c.find.ensures.passes honest)

pub returns-in-Err-clause-spared : goal.returns-in-Err-clause-spared
returns-in-Err-clause-spared g c honest begun since = looked_spares begun c.args.own.now c.find.result _ _ since (c.find.ensures.gives honest)

pub returns-in-Err-clause-any_moment : goal.returns-in-Err-clause-any_moment
returns-in-Err-clause-any_moment g c honest begun since = looked_moments begun c.args.own.now _ _ _ since (c.find.ensures.passes honest)
