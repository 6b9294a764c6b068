use Rattle.file_streaming.proofs.RemadeLaws.{texts_pass}
use Rattle.file_streaming.proofs.remade_laws.texts_pass.Goals as goal

pub returns : goal.returns
returns c = texts_pass
