use Rattle.std.proofs.Common.{◌∙◌, Ok, Option, Some, ap, subst, sym}
use Rattle.cap_text.specs.Cap.{verify_cap_of}
use Rattle.download_shares.specs.Causes.{AddsBlames}
use Rattle.download_core.specs.Causes.{IsCause}
use Rattle.download_core.specs.Prompt.{IsPromptIfFound}
use Rattle.download_core.specs.Steps.{EndsAs, entries_of, found_of}
use Rattle.download_core.specs.declared.state.FoundFile.{FoundFile}
use Rattle.download_core.proofs.FairLemmas.{made_fair}
use Rattle.download_core.proofs.state.Machine.settle.Goals.{After-settle}
use Rattle.download_core.proofs.EndLemmas.{runs_waits, settled_ends}
use Rattle.download_core.proofs.Going.{moves_read}
use Rattle.download_core.proofs.Results.{if_any}
use Rattle.download_core.proofs.state.Machine.settle.Goals as goal

-- each blame has its cause
caused : (c : After-settle) → AddsBlames (IsCause (verify_cap_of c.args.self.now.cap) c.settle.new.beginnings.holdings.requests.entries (found_of (Some (record c.in-Some.found { reading = c.settle.new.self })))) c.args.self.now.beginnings.holdings.blamed c.settle.new.beginnings.holdings.blamed
caused c =
    let m = c.args.self.now in
    let f = c.in-Some.found in
    made_fair (verify_cap_of m.cap) m.beginnings c.settle.new.beginnings (record { position = f.position; file = c.settle.new.self.file }) c.settle.ensures.causes

pub returns-in_err-settled-in-Some-clause-moves : goal.returns-in_err-settled-in-Some-clause-moves
returns-in_err-settled-in-Some-clause-moves c = moves_read c.args.self.now c.in-Some.found c.settle.new.beginnings c.settle.new.self c.in-Some.is c.settle.ensures.continues (caused (goal.at.returns-in_err-settled-in-Some-clause-moves c).After-settle)

pub returns-in_ok-settled-in-Some-clause-moves : goal.returns-in_ok-settled-in-Some-clause-moves
returns-in_ok-settled-in-Some-clause-moves c = moves_read c.args.self.now c.in-Some.found c.settle.new.beginnings c.settle.new.self c.in-Some.is c.settle.ensures.continues (caused (goal.at.returns-in_ok-settled-in-Some-clause-moves c).After-settle)

pub returns-in_ok-settled-in-Some-clause-ends : goal.returns-in_ok-settled-in-Some-clause-ends
returns-in_ok-settled-in-Some-clause-ends c =
    let m = c.args.self.now in
    let k = c.in_ok-settled-in-Some in
    subst (EndsAs (record m { beginnings = c.settle.new.beginnings; found = Some (record c.in-Some.found { reading = c.settle.new.self }) })) (sym c.status_by.ensures.status)
    (settled_ends m c.in-Some.found c.settle.new.beginnings c.settle.new.self c.in-Some.is c.requires c.settle.ensures.continues (caused (goal.at.returns-in_ok-settled-in-Some-clause-ends c).After-settle) k.ensures.reading k.settled
    (λ e. k.ensures.complete.0 e) (λ e. (c.settle.ensures.inconsistent (k.was ∙ ap Ok e), c.settle.ensures.no_code_word (k.was ∙ ap Ok e))) (λ e. c.settle.ensures.waits (k.was ∙ ap Ok e)) (λ e. c.settle.ensures.too_few (k.was ∙ ap Ok e)))

pub returns-in_ok-settled-in-Some-clause-prompt : goal.returns-in_ok-settled-in-Some-clause-prompt
returns-in_ok-settled-in-Some-clause-prompt c = λ runs.
    let k = c.in_ok-settled-in-Some in
    c.settle.ensures.prompt (k.was ∙ ap Ok (runs_waits k.settled (sym c.status_by.ensures.status ∙ runs)))

pub returns-in-None-clause-prompt : goal.returns-in-None-clause-prompt
returns-in-None-clause-prompt c =
    if_any c.settle_opening.result _ (λ status runs. subst (λ (f : Option FoundFile). IsPromptIfFound c.args.patient (entries_of c.settle_opening.new.self) (found_of f)) (sym c.settle_opening.ensures.none) tt)
