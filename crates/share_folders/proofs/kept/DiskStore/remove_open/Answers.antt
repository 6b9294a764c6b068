use Rattle.std.proofs.Common.{◌∙◌}
use Rattle.share_folders.proofs.kept.DiskStore.remove_open.Goals as goal

pub returns-in-Ok-clause-beside : goal.returns-in-Ok-clause-beside
returns-in-Ok-clause-beside g c honest name i file apart own =
    c.discard.ensures.others honest name i file (λ same. apart (same ∙ c.as_str.ensures.value ∙ c.in-Ok.ensures.text)) own
