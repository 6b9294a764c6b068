use Rattle.std.proofs.Common.{inl, inr, subst, sym}
use Rattle.lemmas.proofs.Results.{on_ok_then, settled_by}
use Rattle.request_record.specs.Asking.{after_tick}
use Rattle.download_shares.specs.BeginningState.{BeginningsState}
use Rattle.download_core.specs.Steps.{IsKept}
use Rattle.download_core.proofs.EndLemmas.{kept_still}
use Rattle.download_core.proofs.Going.{stands_still}
use Rattle.download_core.proofs.Records.{from_tick}
use Rattle.download_core.proofs.state.Machine.note.Goals as goal

pub returns-clause-ok : goal.returns-clause-ok
returns-clause-ok c status ended k =
    let m = c.args.self.now in
    let t = c.tick.new.self in
    on_ok_then c.tick.result _ _ c.tick.ensures.ok (λ ticks. stands_still m t (after_tick c.args.now m.beginnings.holdings.requests) status ticks.requests ticks.same.blamed
    (from_tick c.args.now m.beginnings.holdings.requests t.holdings.requests ticks.requests).stays k.file)

pub returns-clause-kept : goal.returns-clause-kept
returns-clause-kept c status ended k =
    let m = c.args.self.now in
    let t = c.tick.new.self in
    elim (settled_by c.tick.result _ _ c.tick.ensures.ok c.tick.ensures.err) [
      | inl ticks ↦ kept_still m status t k (from_tick c.args.now m.beginnings.holdings.requests t.holdings.requests ticks.requests) ticks.same.blamed ended
      | inr e ↦ subst (λ (x : BeginningsState). IsKept (record m { beginnings = x }) status) (sym e) k
    ]
