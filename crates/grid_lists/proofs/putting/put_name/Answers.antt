use Rattle.grid_lists.proofs.ListLemmas.{kept_listed}
use Rattle.grid_shares.specs.Puts.{said_by}
use Rattle.grid_lists.proofs.putting.put_name.Goals as goal

pub returns-in-Some-clause-listed : goal.returns-in-Some-clause-listed
returns-in-Some-clause-listed g c = kept_listed _ _ c.args.storing.now.words.now (said_by c.args.storing.now.choices.now) c.args.storing.now.since.now c.args.storing.now.head.now c.in-Some.cap c.args.name.now c.write_kept.result _ _ c.in-Some.ensures.kept c.write_kept.ensures.entry c.write_kept.ensures.status c.write_kept.ensures.written
