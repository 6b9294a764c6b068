use Rattle.std.proofs.Common.{refl}
use Rattle.grid_lists.proofs.ListLemmas.{cut_at_name, err_again, next_listed, none_listed}
use Rattle.grid_shares.specs.Puts.{said_by}
use Rattle.grid_lists.proofs.putting.put_names.Goals as goal

pub loop-name-init : goal.loop-name-init
loop-name-init g c = record { listed = none_listed _ _ c.args.storing.now.words.now (said_by c.args.storing.now.choices.now) c.args.storing.now.since.now c.args.storing.now.head.now c.args.first _; kept = c.requires.kept }

pub loop-name-preserved : goal.loop-name-preserved
loop-name-preserved g c = record {
  listed = next_listed _ _ c.args.storing.now.words.now (said_by c.args.storing.now.choices.now) c.args.storing.now.since.now c.args.storing.now.head.now c.args.names.now c.loop-name.name-index _ c.args.first c.loop-name.status c.in_ok-own.own c.status_after-status.result _ _ _ _ c.loop-name-test.true
      refl c.status_after-status.ensures c.loop-name.invariant.listed c.in_ok-own.ensures.listed;
  kept = c.in_ok-own.ensures.kept;
}

pub returns-in_err-own-clause-undone : goal.returns-in_err-own-clause-undone
returns-in_err-own-clause-undone g c = err_again c.from_residual.result c.in_err-own.field-0.0 _ c.from_residual.ensures.1
    (cut_at_name _ _ c.args.storing.now.words.now (said_by c.args.storing.now.choices.now) c.args.storing.now.since.now c.args.storing.now.head.now c.args.names.now c.loop-name.name-index c.args.first c.loop-name.status _ _ _ _ c.loop-name-test.true c.loop-name.invariant.listed c.in_err-own.ensures.undone)
