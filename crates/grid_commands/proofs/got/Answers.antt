use Rattle.std.proofs.lemmas.Result.{IfOk-weaker}
use Rattle.grid_commands.proofs.RunLemmas.{get_asked, get_filed, get_left, unread_filed, unread_left}
use Rattle.grid_commands.proofs.got.Goals as goal

pub returns-clause-done : goal.returns-clause-done
returns-clause-done g c = IfOk-weaker c.got_range.result _ _ (λ status done. (c.get_words-asked.result, get_asked _ _ _ _ c.get_words-asked.ensures c.as_str.ensures.value c.in_ok-cap.ensures, done)) c.got_range.ensures.done

pub returns-clause-undone : goal.returns-clause-undone
returns-clause-undone g c = get_left _ c.args.words.now c.get_words-asked.result c.got_range.result _ _ (get_asked _ _ _ _ c.get_words-asked.ensures c.as_str.ensures.value c.in_ok-cap.ensures) c.got_range.ensures.undone

pub returns-clause-filed : goal.returns-clause-filed
returns-clause-filed g c = get_filed _ c.args.words.now c.get_words-asked.result c.got_range.result _ _ (get_asked _ _ _ _ c.get_words-asked.ensures c.as_str.ensures.value c.in_ok-cap.ensures) c.got_range.ensures.filed

pub returns-in_err-cap-clause-undone : goal.returns-in_err-cap-clause-undone
returns-in_err-cap-clause-undone g c = unread_left _ c.args.words.now c.from_residual.result _

pub returns-in_err-cap-clause-filed : goal.returns-in_err-cap-clause-filed
returns-in_err-cap-clause-filed g c = unread_filed _ c.args.words.now c.from_residual.result _ c.from_residual.ensures.0
