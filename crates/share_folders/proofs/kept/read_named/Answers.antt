use Rattle.share_folders.proofs.kept.read_named.Goals as goal

pub returns-in_err-bytes-clause-beside : goal.returns-in_err-bytes-clause-beside
returns-in_err-bytes-clause-beside g c honest name i file own =
    c.read_at.ensures.opened honest name i file (c.take_file.ensures.beside (c.read_at.ensures.so_far honest) name i file own)

pub returns-clause-beside : goal.returns-clause-beside
returns-clause-beside g c honest name i file own =
    c.read_at.ensures.opened honest name i file (c.take_file.ensures.beside (c.read_at.ensures.so_far honest) name i file own)
