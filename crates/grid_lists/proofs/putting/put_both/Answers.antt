use Rattle.std.proofs.lemmas.Result.{IfOk-weaker}
use Rattle.grid_lists.proofs.ListLemmas.{both_listed, cut_in_first, cut_in_second, err_again}
use Rattle.grid_shares.specs.Puts.{said_by}
use Rattle.grid_lists.proofs.putting.put_both.Goals as goal

pub returns-clause-listed : goal.returns-clause-listed
returns-clause-listed g c = IfOk-weaker c.put_names-2.result _ _ (λ last more. both_listed _ _ c.args.storing.now.words.now (said_by c.args.storing.now.choices.now) c.args.storing.now.since.now c.args.storing.now.head.now _ _ 0 c.in_ok-status.status last _ _ _ c.in_ok-status.ensures.listed more) c.put_names-2.ensures.listed

pub returns-clause-undone : goal.returns-clause-undone
returns-clause-undone g c = cut_in_second _ _ c.args.storing.now.words.now (said_by c.args.storing.now.choices.now) c.args.storing.now.since.now c.args.storing.now.head.now _ _ 0 c.in_ok-status.status _ _ _ c.put_names-2.result c.in_ok-status.ensures.listed c.put_names-2.ensures.undone

pub returns-in_err-status-clause-undone : goal.returns-in_err-status-clause-undone
returns-in_err-status-clause-undone g c = err_again c.from_residual.result c.in_err-status.field-0.0 _ c.from_residual.ensures.1
    (cut_in_first _ _ c.args.storing.now.words.now (said_by c.args.storing.now.choices.now) c.args.storing.now.since.now c.args.storing.now.head.now _ _ _ _ _ c.in_err-status.ensures.undone)
