use Rattle.std.proofs.Common.{None}
use Rattle.share_files.proofs.Going.{kept_as}
use Rattle.share_files.specs.Name.{half_file}
use Rattle.share_scrub.proofs.Seeing.{stood_still}
use Rattle.share_scrub.proofs.folder.half_state.Goals as goal

pub returns-in-Ok-clause-seen : goal.returns-in-Ok-clause-seen
returns-in-Ok-clause-seen g c =
    stood_still c.half_aside-file.result (half_file c.args.name.now c.args.own.now) c.in-Some.length c.length_of.new.files c.settle.new.files c.half_aside-file.ensures
    (kept_as None c.length_of.new.files c.settle.new.files c.settle.result (c.settle.ensures None tt)) (rw c.in-Some.is at c.in_ok-length.ensures.stood)

pub returns-in_ok-action-in-Err-2-clause-seen : goal.returns-in_ok-action-in-Err-2-clause-seen
returns-in_ok-action-in-Err-2-clause-seen g c =
    stood_still c.half_aside-file.result (half_file c.args.name.now c.args.own.now) c.in-Some.length c.length_of.new.files c.settle.new.files c.half_aside-file.ensures
    (kept_as None c.length_of.new.files c.settle.new.files c.settle.result (c.settle.ensures None tt)) (rw c.in-Some.is at c.in_ok-length.ensures.stood)
