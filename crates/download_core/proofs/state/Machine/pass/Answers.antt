use Rattle.std.proofs.Common.{◌≡◌, ◌∙◌, ℕ, inl, inr, List, ap, refl}
use Rattle.lemmas.proofs.Results.{if_ok_then}
use Rattle.request_record.specs.Record.{RequestsState, asked_all}
use Rattle.request_record.specs.Asking.{after_tick}
use Rattle.download_shares.specs.BeginningState.{BeginningsState}
use Rattle.download_core.specs.declared.status.DownloadStatus.TheVariants.{Failed, Running}
use Rattle.download_core.specs.Moves.{StopsAt, TicksOn}
use Rattle.download_core.specs.Steps.{entries_of, EndsAs, found_of, IsKept, state_of}
use Rattle.download_core.proofs.EndLemmas.{fair_still, kept_ends, kept_fails}
use Rattle.download_core.proofs.Results.{if_any, on_any}
use Rattle.download_core.proofs.Going.{goes_on, moves_none, moves_trans, plans_from, plans_none, same_on}
use Rattle.download_core.proofs.NewsLemmas.{passes_of}
use Rattle.download_core.proofs.Records.{from_same, from_tick}
use Rattle.download_core.proofs.state.Machine.pass.Goals as goal

pub returns-in_err-tick-clause-err : goal.returns-in_err-tick-clause-err
returns-in_err-tick-clause-err c =
    let m = c.args.self.now in
    let t = c.tick.new.self in
    let e : t ≡ m.beginnings = c.in_err-tick.ensures.err in
    on_any c.from_residual.result ((servers : List ℕ) → StopsAt c.args.now (state_of m servers Running) (state_of (record m { beginnings = t }) servers Failed))
    (λ servers. record {
      same = same_on m (record m { beginnings = t }) t Running Failed (ap (λ (x : BeginningsState). x.holdings.blamed) e)
          (from_same (entries_of m) t.holdings.requests.entries (ap (λ (x : BeginningsState). x.holdings.requests.entries) e)).stays c.requires.file (moves_none (record m { beginnings = t })) servers;
      requests = inl (ap (λ (x : BeginningsState). x.holdings.requests) e);
      later = plans_none (found_of m.found) (entries_of m) t.holdings.requests.entries (ap (λ (x : BeginningsState). x.holdings.requests.entries) e);
      failed = λ running. refl;
      ended = λ other. absurd (other refl);
    })

pub end_lost-requires : goal.end_lost-requires
end_lost-requires c =
    let m = c.args.self.now in
    let t = c.tick.new.self in
    let ticks = c.in_ok-tick.ensures.ok in
    passes_of m t c.args.now (c.requires.way refl) (from_tick c.args.now m.beginnings.holdings.requests t.holdings.requests ticks.requests) ticks c.in_ok-tick.ensures.begun c.in_ok-tick.ensures.known c.in_ok-tick.ensures.opening

pub returns-clause-ok : goal.returns-clause-ok
returns-clause-ok c =
    let m = c.args.self.now in
    let t = c.tick.new.self in
    let n = c.settle.new.self in
    let ticks = c.in_ok-tick.ensures.ok in
    let r : RequestsState = after_tick c.args.now m.beginnings.holdings.requests in
    if_any c.settle.result (λ ended. (servers : List ℕ) → TicksOn c.args.now (state_of m servers Running) (state_of n servers ended))
    (λ ended servers. goes_on m n t r Running ended ticks.requests ticks.same.blamed (from_tick c.args.now m.beginnings.holdings.requests t.holdings.requests ticks.requests).stays c.requires.file refl
    (moves_trans (record m { beginnings = t }) c.end_lost.new.self n c.end_lost.ensures.moves c.settle.ensures.moves (inl c.settle.ensures.none)) servers)

pub returns-clause-err : goal.returns-clause-err
returns-clause-err c =
    let m = c.args.self.now in
    let t = c.tick.new.self in
    let n = c.settle.new.self in
    let ticks = c.in_ok-tick.ensures.ok in
    let on = moves_trans (record m { beginnings = t }) c.end_lost.new.self n c.end_lost.ensures.moves c.settle.ensures.moves (inl c.settle.ensures.none) in
    on_any c.settle.result ((servers : List ℕ) → StopsAt c.args.now (state_of m servers Running) (state_of n servers Failed))
    (λ servers. record {
      same = same_on m n t Running Failed ticks.same.blamed (from_tick c.args.now m.beginnings.holdings.requests t.holdings.requests ticks.requests).stays c.requires.file on servers;
      requests = inr (on.goes.asks, on.goes.requests ∙ ap (asked_all on.goes.asks) ticks.requests);
      failed = λ running. refl;
      ended = λ other. absurd (other refl);
      later = plans_from (found_of n.found) (entries_of m) t.holdings.requests.entries (entries_of n) (from_tick c.args.now m.beginnings.holdings.requests t.holdings.requests ticks.requests).alike on.later;
    })

pub returns-clause-kept : goal.returns-clause-kept
returns-clause-kept c =
    let m = c.args.self.now in
    let t = c.tick.new.self in
    let n = c.settle.new.self in
    let ticks = c.in_ok-tick.ensures.ok in
    let fair = fair_still m Running t c.requires (from_tick c.args.now m.beginnings.holdings.requests t.holdings.requests ticks.requests) ticks.same.blamed in
    if_ok_then c.settle.result (EndsAs n) (IsKept n) c.settle.ensures.ends (λ ended k. kept_ends n ended (c.settle.ensures.moves.fair (c.end_lost.ensures.moves.fair fair)) k)

pub returns-clause-failed : goal.returns-clause-failed
returns-clause-failed c =
    let m = c.args.self.now in
    let t = c.tick.new.self in
    let ticks = c.in_ok-tick.ensures.ok in
    kept_fails m Running t c.requires (from_tick c.args.now m.beginnings.holdings.requests t.holdings.requests ticks.requests) ticks.same.blamed c.settle.new.self
    (moves_trans (record m { beginnings = t }) c.end_lost.new.self c.settle.new.self c.end_lost.ensures.moves c.settle.ensures.moves (inl c.settle.ensures.none))

pub returns-in_err-tick-clause-failed : goal.returns-in_err-tick-clause-failed
returns-in_err-tick-clause-failed c =
    let m = c.args.self.now in
    let t = c.tick.new.self in
    let e : t ≡ m.beginnings = c.in_err-tick.ensures.err in
    kept_fails m Running t c.requires (from_same (entries_of m) t.holdings.requests.entries (ap (λ (x : BeginningsState). x.holdings.requests.entries) e)) (ap (λ (x : BeginningsState). x.holdings.blamed) e)
    (record m { beginnings = t }) (moves_none (record m { beginnings = t }))

-- ---- no memory to put a reader aside

pub returns-in_err-end_lost-clause-err : goal.returns-in_err-end_lost-clause-err
returns-in_err-end_lost-clause-err c =
    let m = c.args.self.now in
    let t = c.tick.new.self in
    let n = c.end_lost.new.self in
    let ticks = c.in_ok-tick.ensures.ok in
    let on = c.end_lost.ensures.moves in
    on_any c.from_residual-in_err-end_lost.result ((servers : List ℕ) → StopsAt c.args.now (state_of m servers Running) (state_of n servers Failed))
    (λ servers. record {
      same = same_on m n t Running Failed ticks.same.blamed (from_tick c.args.now m.beginnings.holdings.requests t.holdings.requests ticks.requests).stays c.requires.file on servers;
      requests = inr (on.goes.asks, on.goes.requests ∙ ap (asked_all on.goes.asks) ticks.requests);
      failed = λ running. refl;
      ended = λ other. absurd (other refl);
      later = plans_from (found_of n.found) (entries_of m) t.holdings.requests.entries (entries_of n) (from_tick c.args.now m.beginnings.holdings.requests t.holdings.requests ticks.requests).alike on.later;
    })

pub returns-in_err-end_lost-clause-failed : goal.returns-in_err-end_lost-clause-failed
returns-in_err-end_lost-clause-failed c =
    let m = c.args.self.now in
    let t = c.tick.new.self in
    let ticks = c.in_ok-tick.ensures.ok in
    kept_fails m Running t c.requires (from_tick c.args.now m.beginnings.holdings.requests t.holdings.requests ticks.requests) ticks.same.blamed c.end_lost.new.self c.end_lost.ensures.moves
