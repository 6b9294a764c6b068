use Rattle.grid_surveys.proofs.LookLemmas.{told_refused, told_seen}
use Rattle.grid_surveys.proofs.looking.tell_seen.Goals as goal

pub returns-in_ok-write-in-Ok-clause-told : goal.returns-in_ok-write-in-Ok-clause-told
returns-in_ok-write-in-Ok-clause-told g c =
    told_seen _ c.args.seen c.in-Ok.seen c.is_json.result c.args.name.now c.in_ok-line-in-Ok.line.items c.deref.result.now _ _ _ c.in-Ok.is c.is_json.ensures c.in_ok-line-in-Ok.ensures c.deref.ensures.value c.in_ok-write-in-Ok.ensures.written c.class.ensures c.status.ensures

pub returns-in_ok-tell_refused-in-Err-clause-told : goal.returns-in_ok-tell_refused-in-Err-clause-told
returns-in_ok-tell_refused-in-Err-clause-told g c =
    told_refused _ c.args.seen c.in-Err.fault c.args.name.now _ _ c.in-Err.is c.fault_class.ensures c.status-in-Err.ensures
