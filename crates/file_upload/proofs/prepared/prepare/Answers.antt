use Rattle.file_upload.proofs.OneLength.{chk_are_fit}
use Rattle.file_upload.proofs.prepared.prepare.Goals as goal

pub ready_shares-requires-clause-fit : goal.ready_shares-requires-clause-fit
ready_shares-requires-clause-fit c =
    chk_are_fit c.args.file.now c.args.secret.now c.args.params.now c.happy-happy.ensures.chosen c.in_ok-cap.field-0.cap c.in-Chk.cap c.in-Chk.is
    (λ small. (c.in_ok-cap.ensures.literal small).0) c.in_ok-cap.ensures.fits c.in_ok-cap.field-0.shares.items c.in_ok-cap.ensures.shares
