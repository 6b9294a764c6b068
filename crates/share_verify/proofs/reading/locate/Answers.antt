use Rattle.std.proofs.Common.{refl}
use Rattle.share_layout.specs.Reading.{IsLocateFault}
use Rattle.share_verify.proofs.FirstFault.{layout_accepted, layout_refused}
use Rattle.share_verify.proofs.reading.locate.Goals as goal

pub returns-in-Ok-clause-refused : goal.returns-in-Ok-clause-refused
returns-in-Ok-clause-refused c = layout_accepted (IsLocateFault c.args.share.now) c.locate_ueb.result _ c.locate_ueb.ensures.refused _ _ c.in-Ok.is refl

pub returns-in-Err-clause-refused : goal.returns-in-Err-clause-refused
returns-in-Err-clause-refused c = layout_refused (IsLocateFault c.args.share.now) c.locate_ueb.result _ c.locate_ueb.ensures.refused c.in-Err.error c.in-Err.is refl
