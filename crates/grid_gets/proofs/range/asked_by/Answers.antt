use Rattle.std.proofs.Common.{◌≡◌, Err, ap, rules, sym, ◌∙◌}
use Rattle.grid_faults.specs.declared.fault.Fault.TheVariants as faults
use Rattle.grid_gets.proofs.WordLemmas.{err_same, is_read, is_verify, ok_is_no_err}
use Rattle.grid_gets.proofs.range.asked_by.Goals as goal

pub returns-in_err-cap-clause-verify : goal.returns-in_err-cap-clause-verify
returns-in_err-cap-clause-verify c = λ v spelled. absurd (is_read c.args.words.now.cap.now c.read_cap.result c.read_cap.ensures v spelled c.in_err-cap.field-0.0 c.in_err-cap.was)

pub returns-in_err-size-clause-verify : goal.returns-in_err-size-clause-verify
returns-in_err-size-clause-verify c = λ v spelled.
    let is = is_verify c.args.words.now.cap.now c.read_cap.result c.read_cap.ensures v spelled c.in_ok-cap.cap c.in_ok-cap.was in
    let same : c.in_err-size.field-0.0 ≡ faults.NeedsReadCap = err_same c.in_err-size.field-0.0 faults.NeedsReadCap (sym c.in_err-size.was ∙ c.size_of.ensures.verify v is) in
    let gives : c.from_residual-in_err-size.result ≡ Err c.in_err-size.field-0.0 = search rules in
    gives ∙ ap Err same

pub returns-in_err-range-clause-verify : goal.returns-in_err-range-clause-verify
returns-in_err-range-clause-verify c = λ v spelled.
    let is = is_verify c.args.words.now.cap.now c.read_cap.result c.read_cap.ensures v spelled c.in_ok-cap.cap c.in_ok-cap.was in
    absurd (ok_is_no_err c.in_ok-size.size faults.NeedsReadCap (sym c.in_ok-size.was ∙ c.size_of.ensures.verify v is))

pub returns-clause-verify : goal.returns-clause-verify
returns-clause-verify c = λ v spelled.
    let is = is_verify c.args.words.now.cap.now c.read_cap.result c.read_cap.ensures v spelled c.in_ok-cap.cap c.in_ok-cap.was in
    absurd (ok_is_no_err c.in_ok-size.size faults.NeedsReadCap (sym c.in_ok-size.was ∙ c.size_of.ensures.verify v is))
