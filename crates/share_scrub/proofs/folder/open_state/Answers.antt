use Rattle.std.proofs.Common.{rules, true}
use Rattle.share_files.specs.declared.acts.Act.TheVariants.{Found}
use Rattle.share_files.specs.declared.acts.Standing.TheVariants.{Regular}
use Rattle.share_files.specs.Acts.{Was}
use Rattle.share_scrub.proofs.folder.open_state.Goals as goal

pub returns-in_ok-action-clause-seen : goal.returns-in_ok-action-clause-seen
returns-in_ok-action-clause-seen g c =
    let was : Was (Found c.args.file.now (Regular c.in-Ok-Regular-default-true.length true)) c.look.new.self = search rules in
    c.removal.ensures.still _ was
