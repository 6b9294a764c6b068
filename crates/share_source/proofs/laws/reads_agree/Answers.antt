use Rattle.share_source.proofs.Staying.{reads_agree}
use Rattle.share_source.proofs.laws.reads_agree.Goals as goal

pub returns : goal.returns
returns g c = reads_agree g.B.ShareBytes.gives g.B.ShareBytes.fails
