use Rattle.std.proofs.lemmas.List.Splits.{join_with_byte-slice_split}
use Rattle.catalogues.proofs.below.parts_below.Goals as goal

pub returns-clause-joined : goal.returns-clause-joined
returns-clause-joined c = join_with_byte-slice_split 47 c.args.name.now
