use Rattle.std.specs.Prelude.{is_some}
use Rattle.grid_shares.proofs.ByWords.{held_told, said_so}
use Rattle.grid_shares.proofs.putting.put_file.Goals as goal

pub returns-in-Held-clause-put : goal.returns-in-Held-clause-put
returns-in-Held-clause-put g c = held_told _ _ c.args.words.now (is_some c.args.kept.now) c.in-Held.file.items c.put_held.result _ _ _ c.secret.ensures.said c.requires.choices.numbers c.put_held.ensures.small c.put_held.ensures.stored

pub returns-in-Opened-clause-put : goal.returns-in-Opened-clause-put
returns-in-Opened-clause-put g c = said_so _ _ c.args.words.now (is_some c.args.kept.now) c.put_opened.result _ _ c.secret.ensures.said c.put_opened.ensures.put
