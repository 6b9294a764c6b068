use Rattle.std.proofs.Common.{◌∙◌, ℕ, inl, List, sym, true≢false}
use Rattle.lemmas.proofs.Results.{if_ok_then}
use Rattle.request_record.specs.Record.{RequestsState}
use Rattle.request_record.specs.Asking.{after_message}
use Rattle.download_core.specs.declared.status.DownloadStatus.TheVariants.{Failed}
use Rattle.download_core.specs.Moves.{GoesOn}
use Rattle.download_core.specs.Steps.{EndsAs, IsKept, state_of}
use Rattle.download_core.proofs.EndLemmas.{fair_still, kept_ends, kept_fails, kept_still}
use Rattle.download_core.proofs.Results.{if_any, on_any}
use Rattle.download_core.proofs.Going.{goes_on, moves_none, moves_trans, stands_still}
use Rattle.download_core.proofs.NewsLemmas.{hears_of}
use Rattle.download_core.proofs.Records.{from_message}
use Rattle.download_core.proofs.state.Machine.hear.Goals as goal

pub returns-then-not-is_running-clause-ok : goal.returns-then-not-is_running-clause-ok
returns-then-not-is_running-clause-ok c =
    let m = c.args.self.now in
    let e = c.take_answer-heard.ensures in
    stands_still m c.take_answer-heard.new.self (after_message c.args.from c.args.message c.args.now m.beginnings.holdings.requests) c.args.status e.requests e.same.blamed
    (from_message c.args.from c.args.message c.args.now m.beginnings.holdings.requests c.take_answer-heard.new.self.holdings.requests e.requests).stays c.requires.file

pub returns-then-not-is_running-clause-kept : goal.returns-then-not-is_running-clause-kept
returns-then-not-is_running-clause-kept c =
    let m = c.args.self.now in
    let t = c.take_answer-heard.new.self in
    let e = c.take_answer-heard.ensures in
    kept_still m c.args.status t c.requires (from_message c.args.from c.args.message c.args.now m.beginnings.holdings.requests t.holdings.requests e.requests) e.same.blamed
    (λ run. true≢false (sym (c.is_running.ensures.1 run) ∙ c.if-not-is_running.true))

pub returns-then-not-is_running-clause-failed : goal.returns-then-not-is_running-clause-failed
returns-then-not-is_running-clause-failed c =
    let m = c.args.self.now in
    let t = c.take_answer-heard.new.self in
    let e = c.take_answer-heard.ensures in
    kept_fails m c.args.status t c.requires (from_message c.args.from c.args.message c.args.now m.beginnings.holdings.requests t.holdings.requests e.requests) e.same.blamed (record m { beginnings = t }) (moves_none (record m { beginnings = t }))

pub returns-in_err-news-clause-err : goal.returns-in_err-news-clause-err
returns-in_err-news-clause-err c =
    let m = c.args.self.now in
    let t = c.take_answer-heard.new.self in
    let e = c.take_answer-heard.ensures in
    on_any c.from_residual.result _
    (goes_on m (record m { beginnings = t }) t (after_message c.args.from c.args.message c.args.now m.beginnings.holdings.requests) c.args.status Failed e.requests e.same.blamed (from_message c.args.from c.args.message c.args.now m.beginnings.holdings.requests t.holdings.requests e.requests).stays c.requires.file
    (c.is_running.ensures.0 c.if-not-is_running.false) (moves_none (record m { beginnings = t })))

pub returns-in_err-news-clause-failed : goal.returns-in_err-news-clause-failed
returns-in_err-news-clause-failed c =
    let m = c.args.self.now in
    let t = c.take_answer-heard.new.self in
    let e = c.take_answer-heard.ensures in
    kept_fails m c.args.status t c.requires (from_message c.args.from c.args.message c.args.now m.beginnings.holdings.requests t.holdings.requests e.requests) e.same.blamed (record m { beginnings = t }) (moves_none (record m { beginnings = t }))

pub take_in-requires : goal.take_in-requires
take_in-requires c =
    let m = c.args.self.now in
    let t = c.take_answer-heard.new.self in
    let e = c.take_answer-heard.ensures in
    let k = c.in_ok-news.ensures in
    hears_of m t c.args.from c.args.message c.args.now c.in_ok-news.news (c.requires.way (c.is_running.ensures.0 c.if-not-is_running.false))
    (from_message c.args.from c.args.message c.args.now m.beginnings.holdings.requests t.holdings.requests e.requests) k.hears k.known k.bytes k.opening

pub returns-in_err-take_in-clause-err : goal.returns-in_err-take_in-clause-err
returns-in_err-take_in-clause-err c =
    let m = c.args.self.now in
    let t = c.take_answer-heard.new.self in
    let e = c.take_answer-heard.ensures in
    on_any c.from_residual-in_err-take_in.result _
    (goes_on m c.take_in.new.self t (after_message c.args.from c.args.message c.args.now m.beginnings.holdings.requests) c.args.status Failed e.requests e.same.blamed (from_message c.args.from c.args.message c.args.now m.beginnings.holdings.requests t.holdings.requests e.requests).stays c.requires.file
    (c.is_running.ensures.0 c.if-not-is_running.false) c.take_in.ensures.moves)

pub returns-in_err-take_in-clause-failed : goal.returns-in_err-take_in-clause-failed
returns-in_err-take_in-clause-failed c =
    let m = c.args.self.now in
    let t = c.take_answer-heard.new.self in
    let e = c.take_answer-heard.ensures in
    kept_fails m c.args.status t c.requires (from_message c.args.from c.args.message c.args.now m.beginnings.holdings.requests t.holdings.requests e.requests) e.same.blamed c.take_in.new.self c.take_in.ensures.moves

pub returns-clause-ok : goal.returns-clause-ok
returns-clause-ok c =
    let m = c.args.self.now in
    let t = c.take_answer-heard.new.self in
    let n = c.settle.new.self in
    let e = c.take_answer-heard.ensures in
    let r : RequestsState = after_message c.args.from c.args.message c.args.now m.beginnings.holdings.requests in
    if_any c.settle.result (λ ended. (servers : List ℕ) → GoesOn r (state_of m servers c.args.status) (state_of n servers ended))
    (λ ended servers. goes_on m n t r c.args.status ended e.requests e.same.blamed (from_message c.args.from c.args.message c.args.now m.beginnings.holdings.requests t.holdings.requests e.requests).stays c.requires.file (c.is_running.ensures.0 c.if-not-is_running.false)
    (moves_trans (record m { beginnings = t }) c.take_in.new.self n c.take_in.ensures.moves c.settle.ensures.moves (inl c.settle.ensures.none)) servers)

pub returns-clause-err : goal.returns-clause-err
returns-clause-err c =
    let m = c.args.self.now in
    let t = c.take_answer-heard.new.self in
    let n = c.settle.new.self in
    let e = c.take_answer-heard.ensures in
    let r : RequestsState = after_message c.args.from c.args.message c.args.now m.beginnings.holdings.requests in
    on_any c.settle.result ((servers : List ℕ) → GoesOn r (state_of m servers c.args.status) (state_of n servers Failed))
    (λ servers. goes_on m n t r c.args.status Failed e.requests e.same.blamed (from_message c.args.from c.args.message c.args.now m.beginnings.holdings.requests t.holdings.requests e.requests).stays c.requires.file (c.is_running.ensures.0 c.if-not-is_running.false)
    (moves_trans (record m { beginnings = t }) c.take_in.new.self n c.take_in.ensures.moves c.settle.ensures.moves (inl c.settle.ensures.none)) servers)

pub returns-clause-kept : goal.returns-clause-kept
returns-clause-kept c =
    let m = c.args.self.now in
    let t = c.take_answer-heard.new.self in
    let n = c.settle.new.self in
    let e = c.take_answer-heard.ensures in
    let fair = fair_still m c.args.status t c.requires (from_message c.args.from c.args.message c.args.now m.beginnings.holdings.requests t.holdings.requests e.requests) e.same.blamed in
    if_ok_then c.settle.result (EndsAs n) (IsKept n) c.settle.ensures.ends (λ ended k. kept_ends n ended (c.settle.ensures.moves.fair (c.take_in.ensures.moves.fair fair)) k)

pub returns-clause-failed : goal.returns-clause-failed
returns-clause-failed c =
    let m = c.args.self.now in
    let t = c.take_answer-heard.new.self in
    let e = c.take_answer-heard.ensures in
    kept_fails m c.args.status t c.requires (from_message c.args.from c.args.message c.args.now m.beginnings.holdings.requests t.holdings.requests e.requests) e.same.blamed c.settle.new.self
    (moves_trans (record m { beginnings = t }) c.take_in.new.self c.settle.new.self c.take_in.ensures.moves c.settle.ensures.moves (inl c.settle.ensures.none))

pub returns-then-not-is_running-clause-prompt : goal.returns-then-not-is_running-clause-prompt
returns-then-not-is_running-clause-prompt c = λ run. absurd (true≢false (sym (c.is_running.ensures.1 run) ∙ c.if-not-is_running.true))
