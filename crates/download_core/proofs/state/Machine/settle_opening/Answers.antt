use Rattle.std.proofs.Common.{◌≡◌, ◌∙◌, ◌<◌, ap, arith, subst, sym}
use Rattle.cap_text.specs.Cap.{ReadCapValue}
use Rattle.request_record.specs.Record.{RequestsState, outstanding_count}
use Rattle.download_shares.specs.HoldingState.{HoldingsState}
use Rattle.download_shares.specs.Opening.{nobody}
use Rattle.download_core.specs.Steps.{AreOpened, entries_of}
use Rattle.download_core.proofs.EndLemmas.{opening_few, opening_runs}
use Rattle.download_core.proofs.Going.{for_on}
use Rattle.download_core.proofs.state.Machine.settle_opening.Goals as goal

pub returns-then-outstanding-gt0-clause-ends : goal.returns-then-outstanding-gt0-clause-ends
returns-then-outstanding-gt0-clause-ends c =
    let n = c.open_more.new.self in
    let on = c.open_more.ensures.moves c.requires.none in
    let count : c.outstanding.result ≡ outstanding_count (entries_of n) = c.outstanding.ensures ∙ ap (λ (r : RequestsState). outstanding_count r.entries) (c.requests.ensures.value ∙ ap (λ (h : HoldingsState). h.requests) c.holdings.ensures) in
    let test = c.if-outstanding-gt0.true in
    opening_runs n (c.open_more.ensures.found ∙ c.requires.none) (for_on c.args.self.now n on c.requires.wanted)
    (subst (λ (x : ReadCapValue). AreOpened x.total nobody n.beginnings) (sym on.cap) c.in_ok-open_more.ensures.opened) (omega (arith, count, test))

pub returns-else-outstanding-gt0-clause-ends : goal.returns-else-outstanding-gt0-clause-ends
returns-else-outstanding-gt0-clause-ends c =
    let n = c.open_more.new.self in
    let on = c.open_more.ensures.moves c.requires.none in
    let count : c.outstanding.result ≡ outstanding_count (entries_of n) = c.outstanding.ensures ∙ ap (λ (r : RequestsState). outstanding_count r.entries) (c.requests.ensures.value ∙ ap (λ (h : HoldingsState). h.requests) c.holdings.ensures) in
    let test = c.if-outstanding-gt0.false in
    opening_few n (c.open_more.ensures.found ∙ c.requires.none) (for_on c.args.self.now n on c.requires.wanted)
    (subst (λ (x : ReadCapValue). AreOpened x.total nobody n.beginnings) (sym on.cap) c.in_ok-open_more.ensures.opened)
    (subst (λ (x : ReadCapValue). 0 < x.needed) (sym on.cap) c.open_more.ensures.needed) (omega (arith, count, test)) c.in_ok-open_more.ensures.enough
