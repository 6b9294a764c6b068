use Rattle.std.proofs.Common.{◌≡◌, Err, Some, ap}
use Rattle.upload_core.specs.Calls.{upload_calls}
use Rattle.local_grid.specs.Local.{local_calls}
use Rattle.carried_operations.specs.Kept.{memory_carries, memory_gives_up}
use Rattle.carried_operations.proofs.Carrying.{carried_as}
use Rattle.carried_operations.proofs.Held.{kept_as}
use Rattle.carried_operations.proofs.OneProcess.{finishes_back}
use Rattle.carried_operations.proofs.Staying.{ended_all, failed_all}
use Rattle.carried_operations.proofs.keeping.carry_to_keeping.Goals as goal

pub returns-clause-carried : goal.returns-clause-carried
returns-clause-carried g c =
    let operation = upload_calls g.P.Pieces.gives g.P.Pieces.fails in
    carried_as g.P.Pieces.gives g.P.Pieces.fails (local_calls g.S.Store.calls memory_carries memory_gives_up) c.args.limit c.args.upload c.new-watched.result c.into_operation.result c.run_within.new.operation
    c.args.nodes.now c.run_within.new.self c.requires c.new-watched.ensures c.into_operation.ensures
    (finishes_back operation g.S.Store.calls memory_carries memory_gives_up c.args.limit (record { operation = c.new-watched.result; grid = c.args.nodes.now }) (record { operation = c.run_within.new.operation; grid = c.run_within.new.self })
    c.in_ok-run_within.ensures.ok)

pub returns-clause-stay : goal.returns-clause-stay
returns-clause-stay g c =
    ended_all g.S.Store.calls g.S.Keeping.shelf g.met.S.Keeping.kept memory_carries (λ a b. Unit {0}) (upload_calls g.P.Pieces.gives g.P.Pieces.fails) c.args.limit
    (record { operation = c.new-watched.result; grid = c.args.nodes.now }) (record { operation = c.run_within.new.operation; grid = c.run_within.new.self }) c.in_ok-run_within.ensures.ok

pub returns-in_err-run_within-clause-stay : goal.returns-in_err-run_within-clause-stay
returns-in_err-run_within-clause-stay g c =
    failed_all g.S.Store.calls g.S.Keeping.shelf g.met.S.Keeping.kept memory_carries (λ a b. Unit {0}) (upload_calls g.P.Pieces.gives g.P.Pieces.fails) c.in_err-run_within.field-0.0 c.args.limit
    (record { operation = c.new-watched.result; grid = c.args.nodes.now }) (record { operation = c.run_within.new.operation; grid = c.run_within.new.self })
    (λ e. c.in_err-run_within.ensures.turn_limit (ap Err e)) (λ e. c.in_err-run_within.ensures.memory (ap Err e))

pub returns-clause-kept : goal.returns-clause-kept
returns-clause-kept g c = λ sound.
    kept_as g.P.Pieces.gives g.P.Pieces.fails g.S.Store.calls g.S.Keeping.shelf g.met.S.Keeping.kept memory_carries (λ l way sent came after e. same_came came sent e)
    c.args.limit c.args.upload c.new-watched.result c.into_operation.result c.run_within.new.operation
    c.args.nodes.now c.run_within.new.self c.requires c.new-watched.ensures c.into_operation.ensures sound c.in_ok-run_within.ensures.ok where
      same_came : (came sent : Rattle.wire.specs.declared.message.Message.Message) → Some came ≡ Some sent → came ≡ sent
      same_came came sent e = cc
