use Rattle.std.proofs.Common.{refl, take}
use Rattle.std.proofs.lemmas.Result.{on_ok_weaker}
use Rattle.share_gathering.proofs.GroupSteps.{group_long}
use Rattle.share_gathering.proofs.Rows.{rows-shares, rows-wholes}
use Rattle.share_gathering.proofs.shares.add_segments_beside.Goals as goal

pub returns-then-have_free_lanes-clause-shares : goal.returns-then-have_free_lanes-clause-shares
returns-then-have_free_lanes-clause-shares c = on_ok_weaker c.add_few.result
    (λ more s held. rows-shares c.args.geometry.now c.args.group (take c.args.group.len c.args.segments.now) s c.args.shares.now c.add_few.new.shares c.requires.group
    (group_long c.args.geometry.now c.args.group c.args.segments.now c.requires.group c.requires.segments_long) more held)
    c.add_few.ensures.shares

pub returns-then-have_free_lanes-clause-wholes : goal.returns-then-have_free_lanes-clause-wholes
returns-then-have_free_lanes-clause-wholes c = on_ok_weaker c.add_few.result
    (λ more s given. rows-wholes c.args.geometry.now c.args.group (take c.args.group.len c.args.segments.now) s c.args.geometry.now.total c.args.wholes.now c.add_few.new.wholes refl more given)
    c.add_few.ensures.wholes

pub returns-else-have_free_lanes-clause-shares : goal.returns-else-have_free_lanes-clause-shares
returns-else-have_free_lanes-clause-shares c = on_ok_weaker c.add_sevens.result
    (λ more s held. rows-shares c.args.geometry.now c.args.group (take c.args.group.len c.args.segments.now) s c.args.shares.now c.add_sevens.new.shares c.requires.group
    (group_long c.args.geometry.now c.args.group c.args.segments.now c.requires.group c.requires.segments_long) more held)
    c.add_sevens.ensures.shares

pub returns-else-have_free_lanes-clause-wholes : goal.returns-else-have_free_lanes-clause-wholes
returns-else-have_free_lanes-clause-wholes c = on_ok_weaker c.add_sevens.result
    (λ more s given. rows-wholes c.args.geometry.now c.args.group (take c.args.group.len c.args.segments.now) s c.args.geometry.now.total c.args.wholes.now c.add_sevens.new.wholes refl more given)
    c.add_sevens.ensures.wholes
