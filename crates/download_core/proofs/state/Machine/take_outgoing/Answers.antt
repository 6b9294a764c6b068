use Rattle.std.proofs.Common.{ℕ, ◌∙◌, List, ap, subst, sym}
use Rattle.request_record.specs.Asking.{SendsFirst}
use Rattle.request_record.specs.Record.{RequestsState}
use Rattle.download_shares.proofs.Sending.{sent_is}
use Rattle.download_shares.specs.BeginningState.{BeginningsState}
use Rattle.download_core.specs.Steps.{IsKept, state_of}
use Rattle.download_core.specs.Sending.{Takes}
use Rattle.download_core.proofs.TakenLemmas.{kept_sent}
use Rattle.download_core.proofs.Sending.{sends}
use Rattle.download_core.proofs.state.Machine.take_outgoing.Goals as goal

pub returns-clause-takes : goal.returns-clause-takes
returns-clause-takes c =
    let m = c.args.self.now in
    λ servers status runs.
    subst (λ (t : BeginningsState). Takes (state_of m servers status) c.send_next.result (state_of (record m { beginnings = t }) servers status)) (sym c.send_next.ensures.others)
    (sends m c.send_next.new.self.holdings.requests c.send_next.result c.requires.verify c.know_right.ensures.recorded c.know_right.ensures.asks
    (subst (λ (index : List ℕ). SendsFirst index m.beginnings.holdings.requests c.send_next.result c.send_next.new.self.holdings.requests) c.storage_index.ensures.value c.send_next.ensures.sends) servers status runs)

pub returns-clause-kept : goal.returns-clause-kept
returns-clause-kept c =
    let m = c.args.self.now in
    let s = m.beginnings in
    let q = c.send_next.new.self.holdings.requests in
    let is = c.send_next.ensures.others ∙ ap (λ (r : RequestsState). record s { holdings = record s.holdings { requests = r } }) (sent_is c.storage_index.result.now s.holdings.requests q c.send_next.result c.send_next.ensures.sends) in
    λ status k. subst (λ (t : BeginningsState). IsKept (record m { beginnings = t }) status) (sym is) (kept_sent m q.outgoing status k)
