use Rattle.grid_lists.proofs.ListLemmas.{refused_listed, stored_listed}
use Rattle.grid_shares.specs.Puts.{said_by}
use Rattle.grid_lists.proofs.putting.put_anew.Goals as goal

pub returns-in-Ok-clause-listed : goal.returns-in-Ok-clause-listed
returns-in-Ok-clause-listed g c = stored_listed _ _ c.args.storing.now.words.now (said_by c.args.storing.now.choices.now) c.args.storing.now.since.now c.args.storing.now.head.now c.in-Ok.file c.args.name.now c.write_stored.result _ _ c.in-Ok.ensures.put c.write_stored.ensures.entry c.write_stored.ensures.status c.write_stored.ensures.written

pub returns-in_ok-tell_refused-in-Err-clause-listed : goal.returns-in_ok-tell_refused-in-Err-clause-listed
returns-in_ok-tell_refused-in-Err-clause-listed g c = refused_listed _ _ c.args.storing.now.words.now (said_by c.args.storing.now.choices.now) c.args.storing.now.since.now c.args.storing.now.head.now c.in-Err.fault c.args.name.now c.status.result _ c.status.ensures
