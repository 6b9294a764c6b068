use Rattle.std.proofs.Common.{Some, refl}
use Rattle.lemmas.proofs.Results.{on_ok_then}
use Rattle.cap_text.specs.Cap.{verify_cap_of}
use Rattle.download_shares.specs.Causes.{AddsBlames}
use Rattle.download_shares.proofs.Caused.{adds_none}
use Rattle.download_core.specs.declared.state.FoundFile.{FoundFile}
use Rattle.download_core.specs.declared.state.Machine.{Machine}
use Rattle.download_core.specs.Causes.{IsCause}
use Rattle.download_core.specs.Reading.{AreReading}
use Rattle.download_core.specs.Steps.{IsUnderWay, entries_of, found_of}
use Rattle.download_core.proofs.Going.{moves_none, moves_read, read_on}
use Rattle.download_core.proofs.state.Machine.end_lost.Goals as goal

none_blamed : (m : Machine) (f : FoundFile) → AddsBlames (IsCause (verify_cap_of m.cap) (entries_of m) (found_of (Some f))) m.beginnings.holdings.blamed m.beginnings.holdings.blamed
none_blamed m f = adds_none (IsCause (verify_cap_of m.cap) (entries_of m) (found_of (Some f))) m.beginnings.holdings.blamed m.beginnings.holdings.blamed refl

pub returns-in-Some-clause-way : goal.returns-in-Some-clause-way
returns-in-Some-clause-way c =
    let m = c.args.self.now in
    on_ok_then c.pass.result (AreReading m.beginnings c.pass.new.self) (IsUnderWay (record m { found = Some (record c.in-Some.found { reading = c.pass.new.self }) })) c.pass.ensures.reading
    (λ reading. read_on m c.in-Some.found m.beginnings c.pass.new.self c.in-Some.is c.requires.wanted c.requires.file c.pass.ensures.continues (none_blamed m (record c.in-Some.found { reading = c.pass.new.self })) reading)

pub returns-in-Some-clause-moves : goal.returns-in-Some-clause-moves
returns-in-Some-clause-moves c =
    let m = c.args.self.now in
    moves_read m c.in-Some.found m.beginnings c.pass.new.self c.in-Some.is c.pass.ensures.continues (none_blamed m (record c.in-Some.found { reading = c.pass.new.self }))

pub returns-in-None-clause-moves : goal.returns-in-None-clause-moves
returns-in-None-clause-moves c = moves_none c.args.self.now
