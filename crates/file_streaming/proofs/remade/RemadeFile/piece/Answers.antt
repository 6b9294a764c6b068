use Rattle.std.proofs.Common.{◌∙◌}
use Rattle.file_streaming.proofs.RemadeLaws.{kept_of_text}
use Rattle.file_streaming.proofs.remade.RemadeFile.piece.Goals as goal

pub returns-clause-changed : goal.returns-clause-changed
returns-clause-changed g c = λ e extension_block u text is same.
    c.piece.ensures.changed e text (kept_of_text c.args.self.now.cap extension_block u text _ is (c.self.view_is ∙ same))
