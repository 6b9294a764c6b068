use Rattle.proved_parts.proofs.Segments.{parts_agree}
use Rattle.proved_parts.proofs.laws.parts_agree.Goals as goal

pub returns : goal.returns
returns c = parts_agree
