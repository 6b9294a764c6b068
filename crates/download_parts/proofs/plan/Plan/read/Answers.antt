use Rattle.std.proofs.Common.{◌<◌, subst}
use Rattle.download_parts.specs.Plan.{IsPart, data_pieces}
use Rattle.download_parts.proofs.EndLemmas.{end_with_blocks}
use Rattle.download_parts.proofs.plan.Plan.read.Goals as goal

pub returns-in-Data-clause-ends : goal.returns-in-Data-clause-ends
returns-in-Data-clause-ends c =
    let p = c.args.self.now in
    let is : c.in-Data.index < data_pieces p.geometry p.first p.end = subst (IsPart p.geometry p.first p.end) c.in-Data.is c.requires in
    λ i part. rw (c.read_data.ensures.offset, c.read_data.ensures.length) (end_with_blocks p.geometry p.first p.end c.in-Data.index p.range is)
