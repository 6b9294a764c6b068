use Rattle.std.proofs.Common.{◌≡◌, ◌∙◌, ◌<◌, None, inl, inr, refl, subst}
use Rattle.download_shares.specs.HoldingState.{HoldingsState}
use Rattle.download_shares.specs.Table.{NoneIsFree}
use Rattle.cap_text.specs.Cap.{verify_cap_of}
use Rattle.download_shares.specs.Causes.{IsOpeningFault}
use Rattle.download_shares.proofs.Caused.{adds_none}
use Rattle.download_core.specs.Steps.{MovesOn, entries_of}
use Rattle.download_core.proofs.state.Machine.open_more.Goals.{After-open}
use Rattle.download_core.proofs.Going.{moves_asked, moves_none, moves_trans}
use Rattle.download_core.proofs.state.Machine.open_more.Goals as goal

pub loop-self-init : goal.loop-self-init
loop-self-init c = record { opened = c.requires.opened; moves = λ none. moves_none c.args.self.now; found = refl }

pub returns-in_default-clause-enough : goal.returns-in_default-clause-enough
returns-in_default-clause-enough c = inr (subst (λ (x : HoldingsState). NoneIsFree x.table) c.holdings-in-loop-self.ensures c.in_default.ensures.none)

-- one more is opened
opened : (c : After-open) → c.args.self.now.found ≡ None → MovesOn c.loop-self.self (record c.loop-self.self { beginnings = c.open.new.self })
opened c none =
    let m = c.loop-self.self in
    let t = c.open.new.self in
    moves_asked m t c.open.ensures.goes (adds_none (IsOpeningFault (verify_cap_of m.cap) (entries_of m)) m.beginnings.holdings.blamed t.holdings.blamed c.open.ensures.blamed)
    (adds_none (λ b. b.share < m.cap.total) m.beginnings.holdings.blamed t.holdings.blamed c.open.ensures.blamed) c.open.ensures.adds (c.loop-self.invariant.found ∙ none)

pub loop-self-preserved : goal.loop-self-preserved
loop-self-preserved c = record {
  opened = record { known = c.in_ok-open.ensures.known; opening = c.in_ok-open.ensures.opening; count = c.open.ensures.count ∙ c.loop-self.invariant.opened.count };
  moves = λ none. moves_trans c.args.self.now c.loop-self.self (record c.loop-self.self { beginnings = c.open.new.self }) (c.loop-self.invariant.moves none) (opened (goal.at.loop-self-preserved c).After-open none) (inl (λ e. e));
  found = c.loop-self.invariant.found;
}

pub returns-in_err-open-clause-moves : goal.returns-in_err-open-clause-moves
returns-in_err-open-clause-moves c = λ none.
    moves_trans c.args.self.now c.loop-self.self (record c.loop-self.self { beginnings = c.open.new.self }) (c.loop-self.invariant.moves none) (opened (goal.at.returns-in_err-open-clause-moves c).After-open none) (inl (λ e. e))
