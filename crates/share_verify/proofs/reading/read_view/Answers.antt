use Rattle.std.proofs.Common.{refl}
use Rattle.share_layout.specs.Reading.{IsReadFault, sections_in}
use Rattle.share_verify.proofs.FirstFault.{layout_accepted, layout_refused}
use Rattle.share_verify.proofs.reading.read_view.Goals as goal

pub returns-in-Ok-clause-refused : goal.returns-in-Ok-clause-refused
returns-in-Ok-clause-refused c = layout_accepted (IsReadFault c.args.geometry.now c.args.num c.args.share.now) c.read.result _ c.read.ensures.refused _ _ c.in-Ok.is refl

pub returns-in-Err-clause-refused : goal.returns-in-Err-clause-refused
returns-in-Err-clause-refused c = layout_refused (IsReadFault c.args.geometry.now c.args.num c.args.share.now) c.read.result _ c.read.ensures.refused c.in-Err.error c.in-Err.is refl

pub returns-in-Ok-clause-located : goal.returns-in-Ok-clause-located
returns-in-Ok-clause-located c =
    c.shares_locate_their_blocks.ensures c.args.geometry.now c.args.num c.args.share.now (sections_in c.in-Ok.view) c.size.ensures.valid c.in-Ok.ensures.accepted
