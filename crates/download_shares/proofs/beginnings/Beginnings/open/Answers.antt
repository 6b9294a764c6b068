use Rattle.std.proofs.Common.{◌≡◌, ◌∙◌, ◌+◌, List, OnOk, refl, sym, subst, ap}
use Rattle.lemmas.proofs.Results.{on_ok_then, by_result}
use Rattle.share_reading.specs.Opening.{next_length, next_offset}
use Rattle.share_reading.specs.declared.opening.Opening.{Opening}
use Rattle.share_reading.specs.declared.opening.Opening.TheVariants.{Start}
use Rattle.download_shares.specs.HoldingMoves.{IsUnasked}
use Rattle.download_shares.specs.Numbers.{read_count}
use Rattle.download_shares.specs.HoldingState.{HoldingsState}
use Rattle.download_shares.specs.Table.{IsFree, IsHolding}
use Rattle.download_shares.specs.declared.holding.Holding.{Holding}
use Rattle.download_shares.specs.Known.{AreBegun}
use Rattle.download_shares.specs.BeginningMoves.{AsksNext, GoesOn}
use Rattle.download_shares.specs.Opening.{AreOpening, nobody}
use Rattle.download_shares.specs.BeginningState.{BeginningsState, beginnings_state}
use Rattle.request_record.specs.declared.requests.Request.{Request}
use Rattle.download_shares.specs.Reads.{AddsReads, IsInBeginning}
use Rattle.download_shares.proofs.Caused.{reads_next, reads_none}
use Rattle.download_shares.proofs.Opened.{goes_from, goes_next, goes_none, opened_count, opened_known, opened_opening, taken_unasked}
use Rattle.download_shares.proofs.Fields.{seen_beginnings}
use Rattle.download_shares.proofs.beginnings.Beginnings.open.Goals as goal

module _ (c : goal.After-ask_next-arg-2-1) where
  abbrev pub s0 : BeginningsState
  s0 = seen_beginnings c.self.inside

  abbrev pub t0 : BeginningsState
  t0 = beginnings_state c.take_up.new.self c.self.inside.begun.items

  abbrev pub h0 : Holding
  h0 = c.requires.free.0

  pub known0 : AreBegun s0
  known0 = subst AreBegun (sym c.self.view_is) c.requires.known

  pub opening0 : AreOpening nobody s0
  opening0 = subst (AreOpening nobody) (sym c.self.view_is) c.requires.opening

  pub is0 : IsHolding s0.holdings.table c.args.holding h0
  is0 = subst (λ (x : BeginningsState). IsHolding x.holdings.table c.args.holding h0) (sym c.self.view_is) c.requires.free.1

  pub free0 : IsFree s0.holdings.table h0
  free0 = subst (λ (x : BeginningsState). IsFree x.holdings.table h0) (sym c.self.view_is) c.requires.free.2

pub ask_next-requires-clause-unasked : goal.ask_next-requires-clause-unasked
ask_next-requires-clause-unasked c =
    subst (λ (o : Opening). IsUnasked c.take_up.new.self c.args.holding (next_offset o) (next_length o)) (sym c.start.ensures)
    (taken_unasked (s0 c) (t0 c) c.args.holding (h0 c) (known0 c) (opening0 c) (is0 c) (free0 c) c.take_up.ensures.takes c.take_up.ensures.others c.take_up.ensures.right refl)

module _ (c : goal.After-ask_next) where
  abbrev pub s : BeginningsState
  s = seen_beginnings c.self.inside

  abbrev pub t : BeginningsState
  t = beginnings_state c.take_up.new.self c.self.inside.begun.items

  abbrev pub h : Holding
  h = c.requires.free.0

  pub known : AreBegun s
  known = subst AreBegun (sym c.self.view_is) c.requires.known

  pub opening : AreOpening nobody s
  opening = subst (AreOpening nobody) (sym c.self.view_is) c.requires.opening

  pub is : IsHolding s.holdings.table c.args.holding h
  is = subst (λ (x : BeginningsState). IsHolding x.holdings.table c.args.holding h) (sym c.self.view_is) c.requires.free.1

  pub free : IsFree s.holdings.table h
  free = subst (λ (x : BeginningsState). IsFree x.holdings.table h) (sym c.self.view_is) c.requires.free.2

asked : (c : goal.After-ask_next) → OnOk c.ask_next.result (AsksNext c.args.holding Start (t c) c.ask_next.new.self)
asked c = subst (λ (o : Opening). OnOk c.ask_next.result (AsksNext c.args.holding o (t c) c.ask_next.new.self)) c.start.ensures c.ask_next.ensures.asks

pub returns-clause-known : goal.returns-clause-known
returns-clause-known c = on_ok_then c.ask_next.result _ (AreBegun c.ask_next.new.self) (asked c)
    (λ a. opened_known (s c) (t c) c.args.holding (h c) (known c) (opening c) (is c) (free c) c.take_up.ensures.takes c.take_up.ensures.others c.take_up.ensures.right refl c.ask_next.new.self a c.ask_next.ensures.right)

pub returns-clause-opening : goal.returns-clause-opening
returns-clause-opening c = on_ok_then c.ask_next.result _ (AreOpening nobody c.ask_next.new.self) (asked c)
    (λ a. opened_opening (s c) (t c) c.args.holding (h c) (known c) (opening c) (is c) (free c) c.take_up.ensures.takes c.take_up.ensures.others c.take_up.ensures.right refl c.ask_next.new.self a)

pub returns-clause-reads : goal.returns-clause-reads
returns-clause-reads c = on_ok_then c.ask_next.result _ _ (asked c)
    (λ a. ap (λ (x : HoldingsState). read_count x.table.numbers) a.asks.2
    ∙ opened_count (s c) (t c) c.args.holding (h c) (known c) (opening c) (is c) (free c) c.take_up.ensures.takes c.take_up.ensures.others c.take_up.ensures.right refl
    ∙ ap (λ (x : BeginningsState). read_count x.holdings.table.numbers + 1) c.self.view_is)

pub returns-clause-goes : goal.returns-clause-goes
returns-clause-goes c =
    subst (λ (x : BeginningsState). GoesOn x c.ask_next.new.self) c.self.view_is
    (goes_from (s c) (t c) c.ask_next.new.self (ap (λ (x : HoldingsState). x.requests) c.take_up.ensures.others) (ap (λ (x : HoldingsState). x.blamed) c.take_up.ensures.others)
    (by_result c.ask_next.result _ _ (GoesOn (t c) c.ask_next.new.self) (asked c) c.ask_next.ensures.err
    (λ a. goes_next (t c) c.ask_next.new.self c.args.holding Start a)
    (λ e. goes_none (t c) c.ask_next.new.self (ap (λ (x : BeginningsState). x.holdings.requests) e) (ap (λ (x : BeginningsState). x.holdings.blamed) e))))

pub returns-clause-blamed : goal.returns-clause-blamed
returns-clause-blamed c =
    by_result c.ask_next.result _ _ (c.ask_next.new.self.holdings.blamed ≡ c.args.self.now.holdings.blamed) (asked c) c.ask_next.ensures.err
    (λ a. ap (λ (x : HoldingsState). x.blamed) a.asks.2 ∙ taken c)
    (λ e. ap (λ (x : BeginningsState). x.holdings.blamed) e ∙ taken c)
  where
    taken : (c : goal.After-ask_next) → c.take_up.new.self.blamed ≡ c.args.self.now.holdings.blamed
    taken c = ap (λ (x : HoldingsState). x.blamed) c.take_up.ensures.others ∙ ap (λ (x : BeginningsState). x.holdings.blamed) c.self.view_is

pub returns-clause-adds : goal.returns-clause-adds
returns-clause-adds c =
    let now = c.ask_next.new.self.holdings.requests.entries in
    let taken : (t c).holdings.requests.entries ≡ c.args.self.now.holdings.requests.entries = ap (λ (x : HoldingsState). x.requests.entries) c.take_up.ensures.others ∙ ap (λ (x : BeginningsState). x.holdings.requests.entries) c.self.view_is in
    subst (λ (es : List Request). AddsReads (IsInBeginning now) es now) taken
    (by_result c.ask_next.result _ _ (AddsReads (IsInBeginning now) (t c).holdings.requests.entries now) (asked c) c.ask_next.ensures.err
    (λ a. reads_next (t c) c.ask_next.new.self c.args.holding Start a (λ h is. tt))
    (λ e. reads_none (IsInBeginning now) (t c).holdings.requests.entries now (ap (λ (x : BeginningsState). x.holdings.requests.entries) e)))
