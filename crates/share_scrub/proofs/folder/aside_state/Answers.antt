use Rattle.std.proofs.Common.{refl}
use Rattle.share_scrub.proofs.Seeing.{stood_still}
use Rattle.share_scrub.proofs.folder.aside_state.Goals as goal

pub returns-in_ok-action-clause-seen : goal.returns-in_ok-action-clause-seen
returns-in_ok-action-clause-seen g c =
    stood_still c.args.file.now c.args.file.now c.in-Some.length c.length_of.new.files c.removal.new.files refl c.removal.ensures.still (rw c.in-Some.is at c.in_ok-length.ensures.stood)
