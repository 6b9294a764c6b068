use Rattle.share_layout.specs.Geometry.{block_size}
use Rattle.share_verify.proofs.HashedLemmas.{begins_whole}
use Rattle.share_verify.proofs.sections.check_view.Goals as goal

pub returns-clause-sound : goal.returns-clause-sound
returns-clause-sound c =
    let view = c.args.view.now in
    c.check_sections.ensures.sound view.blocks.now view.extension_block.now (begins_whole (block_size c.args.geometry.now) view.blocks.now)

pub returns-clause-refused : goal.returns-clause-refused
returns-clause-refused c = λ fault.
    let view = c.args.view.now in
    c.check_sections.ensures.refused view.blocks.now view.extension_block.now fault (begins_whole (block_size c.args.geometry.now) view.blocks.now)
