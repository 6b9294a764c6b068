use Rattle.file_encoding.proofs.RemadePassing.{regenerated_pass}
use Rattle.file_encoding.proofs.laws.regenerated_pass.Goals as goal

pub returns : goal.returns
returns c = regenerated_pass
