use Rattle.std.proofs.Common.{refl}
use Rattle.grid_commands.proofs.RunLemmas.{begun_to, filed_err, filed_ok, got_to, same_contents}
use Rattle.grid_commands.proofs.got_range.Goals as goal

pub returns-in-Ok-clause-done : goal.returns-in-Ok-clause-done
returns-in-Ok-clause-done g c = record {
  got = got_to _ c.args.words.now c.args.words.now.output _ _ c.in-Ok.ensures.got (same_contents g.O.Write.contents c.args.words.now.output _ _ c.get.ensures.kept);
  status_is = refl;
}

pub returns-in-Ok-clause-filed : goal.returns-in-Ok-clause-filed
returns-in-Ok-clause-filed g c = filed_ok _ c.args.words.now c.args.words.now.output _ _ _ c.get.ensures.unasked c.in-Ok.ensures.file

pub returns-in-Err-clause-undone : goal.returns-in-Err-clause-undone
returns-in-Err-clause-undone g c = begun_to _ c.args.words.now c.args.words.now.output c.in-Err.failure _ _ c.in-Err.ensures.begun (same_contents g.O.Write.contents c.args.words.now.output _ _ c.get.ensures.kept)

pub returns-in-Err-clause-filed : goal.returns-in-Err-clause-filed
returns-in-Err-clause-filed g c = filed_err _ c.args.words.now c.args.words.now.output c.in-Err.failure _ _ c.get.ensures.unasked c.in-Err.ensures.part
