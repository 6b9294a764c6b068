use Rattle.std.proofs.Common.{Some, subst}
use Rattle.lemmas.proofs.Results.{on_ok_then}
use Rattle.cap_text.specs.Cap.{VerifyCapValue, verify_cap_of}
use Rattle.download_shares.specs.Causes.{AddsBlames}
use Rattle.download_core.specs.ReadingCauses.{HasCause}
use Rattle.download_core.specs.Causes.{IsCause}
use Rattle.download_core.specs.Steps.{entries_of, found_of}
use Rattle.download_core.proofs.FairLemmas.{heard_fair}
use Rattle.download_core.proofs.state.Machine.take_in.Goals.{After-hear}
use Rattle.download_core.proofs.Going.{moves_read, read_on}
use Rattle.download_core.proofs.state.Machine.take_in.Goals as goal

-- each blame has its cause
caused : (c : After-hear) → AddsBlames (IsCause (verify_cap_of c.args.self.now.cap) c.hear.new.beginnings.holdings.requests.entries (found_of (Some (record c.in-Some.found { reading = c.hear.new.self })))) c.args.self.now.beginnings.holdings.blamed c.hear.new.beginnings.holdings.blamed
caused c =
    let m = c.args.self.now in
    let f = c.in-Some.found in
    heard_fair (verify_cap_of m.cap) m.beginnings c.hear.new.beginnings (record { position = f.position; file = c.hear.new.self.file }) c.hear.ensures.requests
    (subst (λ (v : VerifyCapValue). AddsBlames (HasCause v (entries_of m) c.hear.new.self.file) m.beginnings.holdings.blamed c.hear.new.beginnings.holdings.blamed) c.requires.wanted.verify c.hear.ensures.causes)

pub returns-in-Some-clause-way : goal.returns-in-Some-clause-way
returns-in-Some-clause-way c =
    let m = c.args.self.now in
    on_ok_then c.hear.result _ _ c.hear.ensures.reading (λ reading. read_on m c.in-Some.found c.hear.new.beginnings c.hear.new.self c.in-Some.is c.requires.wanted c.requires.file c.hear.ensures.continues (caused (goal.at.returns-in-Some-clause-way c).After-hear) reading)

pub returns-in-Some-clause-moves : goal.returns-in-Some-clause-moves
returns-in-Some-clause-moves c =
    let m = c.args.self.now in
    moves_read m c.in-Some.found c.hear.new.beginnings c.hear.new.self c.in-Some.is c.hear.ensures.continues (caused (goal.at.returns-in-Some-clause-moves c).After-hear)
