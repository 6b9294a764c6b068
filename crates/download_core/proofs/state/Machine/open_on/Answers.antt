use Rattle.std.proofs.Common.{◌≡◌, ◌<◌, IfSome, None, Option, Some, ap, inr, subst}
use Rattle.request_record.specs.Record.{RequestsState}
use Rattle.cap_text.specs.Cap.{VerifyCapValue}
use Rattle.download_shares.specs.Causes.{AddsBlames, IsOpeningFault}
use Rattle.download_core.specs.Steps.{MovesOn, entries_of}
use Rattle.download_core.proofs.state.Machine.open_on.Goals.{After-go_on}
use Rattle.download_core.proofs.Going.{moves_asked, moves_none, moves_trans, opened_on, opened_still}
use Rattle.download_core.proofs.state.Machine.open_on.Goals as goal

pub returns-in_default : goal.returns-in_default
returns-in_default c =
    let m = c.args.self.now in
    record {
      way = opened_on m m.beginnings c.requires.none c.requires.wanted (opened_still m.cap.total m.beginnings c.args.news c.in_default.not-Beginning c.requires.opens.opened);
      moves = moves_none m;
    }

if_some_at : {X Q : Type 0} (o : Option X) (x : X) → o ≡ Some x → IfSome o (λ (y : X). Q) → Q
if_some_at None x is k = absurd cc
if_some_at (Some y) x is k = k

-- what the answer to the next read brings
asked : (c : After-go_on) → MovesOn c.args.self.now (record c.args.self.now { beginnings = c.go_on.new.self })
asked c =
    let m = c.args.self.now in
    let t = c.go_on.new.self in
    moves_asked m t c.go_on.ensures.goes (subst (λ (v : VerifyCapValue). AddsBlames (IsOpeningFault v (entries_of m)) m.beginnings.holdings.blamed t.holdings.blamed) c.requires.wanted.verify c.go_on.ensures.causes)
    (subst (λ n. AddsBlames (λ b. b.share < n) m.beginnings.holdings.blamed t.holdings.blamed) c.requires.opens.opened.count c.go_on.ensures.low) c.go_on.ensures.adds c.requires.none

pub returns-in_err-opened-clause-moves : goal.returns-in_err-opened-clause-moves
returns-in_err-opened-clause-moves c = asked (goal.at.returns-in_err-opened-clause-moves c).After-go_on

pub returns-in-None-clause-moves : goal.returns-in-None-clause-moves
returns-in-None-clause-moves c = asked (goal.at.returns-in-None-clause-moves c).After-go_on

pub returns-in-Some-clause-moves : goal.returns-in-Some-clause-moves
returns-in-Some-clause-moves c =
    let m = c.args.self.now in
    moves_trans m (record m { beginnings = c.go_on.new.self }) c.accept.new.self (asked (goal.at.returns-in-Some-clause-moves c).After-go_on) c.accept.ensures.moves (inr (ap (λ (r : RequestsState). r.entries) (if_some_at c.in_ok-opened.field-0 c.in-Some.opened c.in-Some.is c.in_ok-opened.ensures.found_asks)))
