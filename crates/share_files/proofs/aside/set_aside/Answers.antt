use Rattle.std.proofs.Common.{refl, subst}
use Rattle.std.specs.Prelude.{option_copied}
use Rattle.share_files.specs.declared.name.ShareFile.{ShareFile}
use Rattle.share_files.specs.Going.{IsHalfFate}
use Rattle.share_files.specs.Name.{closed_file, half_file}
use Rattle.share_files.proofs.Going.{as_before, away, away_still, before, err_goes, kept_as, moved, on_err, on_ok, same_index}
use Rattle.share_files.proofs.aside.set_aside.Goals as goal

pub returns-in_err-fate-clause-goes : goal.returns-in_err-fate-clause-goes
returns-in_err-fate-clause-goes g c = λ of none.
    let w = option_copied c.args.wanted in
    err_goes w c.args.files.now c.half_fate.new.files _ c.from_residual-in_err-fate.result c.from_residual-in_err-fate.ensures.1
    (before w 0 0 c.args.files.now c.rename.new.self c.half_fate.new.files
    (moved w c.args.name.now c.in_ok-own.own c.closed.result c.half_aside-half.result c.args.files.now c.rename.new.self c.closed.ensures c.half_aside-half.ensures c.in_ok-rename.ensures.moved of none)
    (c.half_fate.ensures.goes w))

pub returns-in_err-fate-clause-gone : goal.returns-in_err-fate-clause-gone
returns-in_err-fate-clause-gone g c = λ of none.
    let there = away c.args.name.now c.closed.result c.half_aside-half.result c.args.files.now c.rename.new.self c.closed.ensures c.in_ok-rename.ensures.moved in
    on_err _ c.from_residual-in_err-fate.result
    (λ e nothing. away_still (closed_file c.args.name.now) c.rename.new.self c.half_fate.new.files (c.half_fate.ensures.goes (option_copied c.args.wanted)).kept there)

pub returns-clause-goes : goal.returns-clause-goes
returns-clause-goes g c = λ of none.
    let w = option_copied c.args.wanted in
    let fate = subst (λ (h : ShareFile). IsHalfFate w h c.args.name.now.digest c.half_fate.new.files c.in_ok-fate.fate) c.half_aside-half.ensures c.in_ok-fate.ensures.fate in
    as_before w c.args.files.now c.half_fate.new.files c.go_on.new.files c.go_on.result
    (before w 0 0 c.args.files.now c.rename.new.self c.half_fate.new.files
    (moved w c.args.name.now c.in_ok-own.own c.closed.result c.half_aside-half.result c.args.files.now c.rename.new.self c.closed.ensures c.half_aside-half.ensures c.in_ok-rename.ensures.moved of none)
    (c.half_fate.ensures.goes w))
    (c.go_on.ensures w (same_index w (closed_file c.args.name.now) (half_file c.args.name.now c.in_ok-own.own) refl of) fate)

pub returns-clause-away : goal.returns-clause-away
returns-clause-away g c = λ of none.
    let w = option_copied c.args.wanted in
    let fate = subst (λ (h : ShareFile). IsHalfFate w h c.args.name.now.digest c.half_fate.new.files c.in_ok-fate.fate) c.half_aside-half.ensures c.in_ok-fate.ensures.fate in
    let goes = c.go_on.ensures w (same_index w (closed_file c.args.name.now) (half_file c.args.name.now c.in_ok-own.own) refl of) fate in
    let there = away c.args.name.now c.closed.result c.half_aside-half.result c.args.files.now c.rename.new.self c.closed.ensures c.in_ok-rename.ensures.moved in
    on_ok _ c.go_on.result (λ went.
    away_still (closed_file c.args.name.now) c.half_fate.new.files c.go_on.new.files (kept_as w c.half_fate.new.files c.go_on.new.files c.go_on.result goes)
    (away_still (closed_file c.args.name.now) c.rename.new.self c.half_fate.new.files (c.half_fate.ensures.goes w).kept there))

pub returns-clause-gone : goal.returns-clause-gone
returns-clause-gone g c = λ of none.
    let w = option_copied c.args.wanted in
    let fate = subst (λ (h : ShareFile). IsHalfFate w h c.args.name.now.digest c.half_fate.new.files c.in_ok-fate.fate) c.half_aside-half.ensures c.in_ok-fate.ensures.fate in
    let goes = c.go_on.ensures w (same_index w (closed_file c.args.name.now) (half_file c.args.name.now c.in_ok-own.own) refl of) fate in
    let there = away c.args.name.now c.closed.result c.half_aside-half.result c.args.files.now c.rename.new.self c.closed.ensures c.in_ok-rename.ensures.moved in
    on_err _ c.go_on.result (λ e nothing.
    away_still (closed_file c.args.name.now) c.half_fate.new.files c.go_on.new.files (kept_as w c.half_fate.new.files c.go_on.new.files c.go_on.result goes)
    (away_still (closed_file c.args.name.now) c.rename.new.self c.half_fate.new.files (c.half_fate.ensures.goes w).kept there))
