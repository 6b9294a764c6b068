use Rattle.std.proofs.Common.{◌∙◌}
use Rattle.share_folders.specs.Names.{open_name}
use Rattle.share_folders.proofs.kept.DiskStore.let_go.Goals as goal

pub returns-in-Ok-clause-beside : goal.returns-in-Ok-clause-beside
returns-in-Ok-clause-beside g c honest name i file apart own =
    c.remove_open.ensures.beside honest name i file (λ same. apart (same ∙ (λ j. open_name (c.in-Ok.ensures.key j) (c.in-Ok.ensures.own j)))) own
