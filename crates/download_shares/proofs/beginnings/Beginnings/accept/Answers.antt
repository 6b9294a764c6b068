use Rattle.std.proofs.Common.{◌≡◌, ◌∙◌, ◌<◌, length, refl, ap, arith, subst}
use Rattle.request_record.specs.Record.{RequestsState}
use Rattle.download_shares.specs.Causes.{AddsBlames}
use Rattle.download_shares.specs.BeginningState.{BeginningsState}
use Rattle.download_shares.specs.Causes.{IsNumbered, IsOtherHeader}
use Rattle.download_shares.proofs.Caused.{adds_none, adds_trans}
use Rattle.download_shares.proofs.Comparing.{compared_all, compared_none}
use Rattle.download_shares.proofs.Opened.{goes_none, goes_trans}
use Rattle.download_shares.proofs.beginnings.Beginnings.accept.Goals.{After-compare_one}
use Rattle.download_shares.proofs.beginnings.Beginnings.accept.Goals as goal

pub loop-holding-init : goal.loop-holding-init
loop-holding-init c = record {
  known = c.requires.known;
  compared = compared_none c.args.geometry.now c.args.found c.args.self.now c.requires.found;
  begun = refl;
  requests = refl;
  causes = adds_none (IsOtherHeader c.args.geometry.now c.args.self.now.holdings.requests.entries) c.args.self.now.holdings.blamed c.args.self.now.holdings.blamed refl;
  goes = goes_none c.args.self.now c.args.self.now refl refl;
  count = refl;
  low = adds_none (IsNumbered c.args.self.now) c.args.self.now.holdings.blamed c.args.self.now.holdings.blamed refl;
}

pub returns-clause-compared : goal.returns-clause-compared
returns-clause-compared c =
    let k = c.loop-holding.invariant in
    let len : c.len-holding-end.result ≡ length c.args.self.now.begun = c.len-holding-end.ensures ∙ c.self.inside.begun.ok.0 ∙ ap (λ (x : BeginningsState). length x.begun) c.self.view_is in
    let same : length c.loop-holding.self.begun ≡ length c.args.self.now.begun = ap length k.begun in
    compared_all c.args.geometry.now c.args.found c.loop-holding.holding c.loop-holding.self k.known
    (let f = c.requires.found.inside in omega (arith, f, same))
    (let e = c.loop-holding-test.false in omega (arith, e, len, same)) k.compared

-- one more is compared
compared_causes : (c : After-compare_one) → AddsBlames (IsOtherHeader c.args.geometry.now c.args.self.now.holdings.requests.entries) c.args.self.now.holdings.blamed c.compare_one.new.self.holdings.blamed
compared_causes c =
    let s = c.args.self.now in
    let k = c.loop-holding.invariant in
    let e = c.compare_one.ensures in
    adds_trans (IsOtherHeader c.args.geometry.now s.holdings.requests.entries) s c.loop-holding.self c.compare_one.new.self e.goes k.causes
    (subst (λ (r : RequestsState). AddsBlames (IsOtherHeader c.args.geometry.now r.entries) c.loop-holding.self.holdings.blamed c.compare_one.new.self.holdings.blamed) k.requests e.causes)

compared_low : (c : After-compare_one) → AddsBlames (IsNumbered c.args.self.now) c.args.self.now.holdings.blamed c.compare_one.new.self.holdings.blamed
compared_low c =
    let s = c.args.self.now in
    let k = c.loop-holding.invariant in
    let e = c.compare_one.ensures in
    adds_trans (IsNumbered s) s c.loop-holding.self c.compare_one.new.self e.goes k.low
    (subst (λ n. AddsBlames (λ b. b.share < n) c.loop-holding.self.holdings.blamed c.compare_one.new.self.holdings.blamed) k.count e.low)

pub returns-in_err-compare_one-clause-low : goal.returns-in_err-compare_one-clause-low
returns-in_err-compare_one-clause-low c = compared_low (goal.at.returns-in_err-compare_one-clause-low c).After-compare_one

pub returns-in_err-compare_one-clause-causes : goal.returns-in_err-compare_one-clause-causes
returns-in_err-compare_one-clause-causes c = compared_causes (goal.at.returns-in_err-compare_one-clause-causes c).After-compare_one

pub loop-holding-preserved : goal.loop-holding-preserved
loop-holding-preserved c =
    let k = c.loop-holding.invariant in
    let e = c.compare_one.ensures in
    record {
      known = c.in_ok-compare_one.ensures.known;
      compared = c.in_ok-compare_one.ensures.compared c.args.found k.compared;
      begun = e.begun ∙ k.begun;
      requests = e.requests ∙ k.requests;
      causes = compared_causes (goal.at.loop-holding-preserved c).After-compare_one;
      goes = goes_trans c.args.self.now c.loop-holding.self c.compare_one.new.self k.goes e.goes;
      count = e.count ∙ k.count;
      low = compared_low (goal.at.loop-holding-preserved c).After-compare_one;
    }
