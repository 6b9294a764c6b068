use Rattle.std.proofs.Common.{◌∙◌, ◌<◌, ap}
use Rattle.download_shares.specs.Causes.{AddsBlames, IsBeginningFault}
use Rattle.download_core.specs.ReadingState.{ReadingState}
use Rattle.std.proofs.Common.{refl, sym, subst}
use Rattle.download_file.proofs.GrowLemmas.{same_itself}
use Rattle.request_record.specs.Record.{RequestsState}
use Rattle.download_file.specs.Answers.{IsRead}
use Rattle.download_core.specs.ReadingSteps.{Continues}
use Rattle.download_core.proofs.Compared.{awaited, compared_kept, compared_live, compared_told}
use Rattle.download_core.proofs.Ended.{adds_none, asks_none, continues_trans}
use Rattle.download_core.proofs.file_reading.FileReading.compare.Goals.{After-compare}
use Rattle.download_core.proofs.file_reading.FileReading.compare.Goals as goal

pub compare-requires-clause-awaits : goal.compare-requires-clause-awaits
compare-requires-clause-awaits c = awaited c.args.beginnings.now c.args.holding c.args.position c.requires.told.linked.kept.known c.requires.waits

pub returns-in_err-compare-clause-continues : goal.returns-in_err-compare-clause-continues
returns-in_err-compare-clause-continues c = record {
  goes = c.in_err-compare.ensures.goes;
  same = same_itself c.args.self.now.file;
  pieces = adds_none c.args.self.now.file.handout c.args.self.now.file.handout refl;
  answers = λ a. subst (λ (q : RequestsState). IsRead q.entries c.args.self.now.file) (sym c.in_err-compare.ensures.requests) a;
  reads = asks_none c.args.self.now.file c.args.beginnings.now c.compare.new.self c.in_err-compare.ensures.requests;
}

pub end_gone-requires-clause-kept : goal.end_gone-requires-clause-kept
end_gone-requires-clause-kept c =
    let k = c.in_ok-compare.ensures in
    compared_kept c.args.beginnings.now c.compare.new.self c.args.self.now c.args.holding c.requires.told k.compares k.requests k.known

pub end_gone-requires-clause-live : goal.end_gone-requires-clause-live
end_gone-requires-clause-live c =
    let k = c.in_ok-compare.ensures in
    compared_live c.args.beginnings.now c.compare.new.self c.args.self.now c.args.holding c.requires.told k.compares k.requests k.known

pub returns-clause-told : goal.returns-clause-told
returns-clause-told c =
    let k = c.in_ok-compare.ensures in
    let e = c.end_gone.ensures in
    compared_told c.args.beginnings.now c.compare.new.self c.args.self.now c.args.holding c.requires.told k.compares k.requests k.known c.end_gone.new.self e.linked e.holdings e.awaits

pub returns-clause-continues : goal.returns-clause-continues
returns-clause-continues c =
    let k = c.in_ok-compare.ensures in
    let t = c.compare.new.self in
    let first : Continues c.args.beginnings.now c.args.self.now t c.args.self.now = record {
      goes = k.goes;
      same = same_itself c.args.self.now.file;
      pieces = adds_none c.args.self.now.file.handout c.args.self.now.file.handout refl;
      answers = λ a. subst (λ (q : RequestsState). IsRead q.entries c.args.self.now.file) (sym k.requests) a;
      reads = asks_none c.args.self.now.file c.args.beginnings.now t k.requests;
    } in
    continues_trans c.args.beginnings.now t t c.args.self.now c.args.self.now c.end_gone.new.self first c.end_gone.ensures.continues

pub returns-clause-causes : goal.returns-clause-causes
returns-clause-causes c =
    subst (λ g. AddsBlames (IsBeginningFault c.args.cap.now g c.args.beginnings.now.holdings.requests.entries) c.args.beginnings.now.holdings.blamed c.compare.new.self.holdings.blamed)
    (c.geometry.ensures.value ∙ ap (λ (x : ReadingState). x.file.handout.geometry) c.self.view_is) c.compare.ensures.causes

pub returns-in_err-compare-clause-causes : goal.returns-in_err-compare-clause-causes
returns-in_err-compare-clause-causes c =
    subst (λ g. AddsBlames (IsBeginningFault c.args.cap.now g c.args.beginnings.now.holdings.requests.entries) c.args.beginnings.now.holdings.blamed c.compare.new.self.holdings.blamed)
    (c.geometry.ensures.value ∙ ap (λ (x : ReadingState). x.file.handout.geometry) c.self.view_is) c.compare.ensures.causes

numbered : (c : After-compare) → AddsBlames (λ b. b.share < c.args.self.now.file.handout.geometry.total) c.args.beginnings.now.holdings.blamed c.compare.new.self.holdings.blamed
numbered c =
    subst (λ n. AddsBlames (λ b. b.share < n) c.args.beginnings.now.holdings.blamed c.compare.new.self.holdings.blamed) c.requires.told.linked.kept.total c.compare.ensures.low

pub returns-clause-low : goal.returns-clause-low
returns-clause-low c = numbered (goal.at.returns-clause-low c).After-compare

pub returns-in_err-compare-clause-low : goal.returns-in_err-compare-clause-low
returns-in_err-compare-clause-low c = numbered (goal.at.returns-in_err-compare-clause-low c).After-compare
