use Rattle.std.proofs.Common.{None}
use Rattle.share_files.proofs.Going.{kept_as}
use Rattle.share_scrub.proofs.folder.damaged_state.Goals as goal

pub returns-in-Ok-Aside-clause-seen : goal.returns-in-Ok-Aside-clause-seen
returns-in-Ok-Aside-clause-seen g c = λ none was. kept_as None c.args.files.now c.set_aside.new.files c.set_aside.result (c.set_aside.ensures.goes tt none) _ was

pub returns-in-Ok-Back-clause-seen : goal.returns-in-Ok-Back-clause-seen
returns-in-Ok-Back-clause-seen g c = λ none was. kept_as None c.args.files.now c.set_aside.new.files c.set_aside.result (c.set_aside.ensures.goes tt none) _ was

pub returns-in_ok-action-in-Err-clause-seen : goal.returns-in_ok-action-in-Err-clause-seen
returns-in_ok-action-in-Err-clause-seen g c = λ none was. kept_as None c.args.files.now c.set_aside.new.files c.set_aside.result (c.set_aside.ensures.goes tt none) _ was
