use Rattle.share_files.specs.Name.{half_file}
use Rattle.share_files.proofs.Going.{as_before, before, none_still}
use Rattle.share_files.proofs.aside.move_on.Goals as goal

pub returns-in_default : goal.returns-in_default
returns-in_default g c = λ wanted of none.
    let first = c.loop-number.invariant wanted of none in
    before wanted 0 0 c.args.files.now c.loop-number.files c.move_to.new.files first
    (c.in-Err.ensures wanted of (none_still wanted (half_file c.args.name.now c.args.own.now) c.args.name.now.digest c.args.files.now c.loop-number.files first.kept none))

pub returns-in_default-2 : goal.returns-in_default-2
returns-in_default-2 g c = λ wanted of none.
    let first = c.loop-number.invariant wanted of none in
    as_before wanted c.args.files.now c.loop-number.files c.move_to.new.files c.move_to.result first
    (c.move_to.ensures wanted of (none_still wanted (half_file c.args.name.now c.args.own.now) c.args.name.now.digest c.args.files.now c.loop-number.files first.kept none))

pub loop-number-preserved : goal.loop-number-preserved
loop-number-preserved g c = λ wanted of none.
    let first = c.loop-number.invariant wanted of none in
    before wanted 0 0 c.args.files.now c.loop-number.files c.move_to.new.files first
    (c.in-Err.ensures wanted of (none_still wanted (half_file c.args.name.now c.args.own.now) c.args.name.now.digest c.args.files.now c.loop-number.files first.kept none))
