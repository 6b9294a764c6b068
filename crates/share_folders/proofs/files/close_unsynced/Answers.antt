use Rattle.share_folders.proofs.Closings.{unsynced_closes}
use Rattle.share_folders.proofs.files.close_unsynced.Goals as goal

pub returns-clause-closes : goal.returns-clause-closes
returns-clause-closes g c honest bytes was =
    unsynced_closes _ bytes c.finish_unsynced.result c.as_stored.result _ _ c.as_stored.ensures
    (c.finish_unsynced.ensures.held honest bytes was.1.0 was.1.1) (c.finish_unsynced.ensures.kept honest bytes was.1.0 was.1.1)
    (c.finish_unsynced.ensures.files honest bytes was.1.0 was.1.1)

pub returns-clause-others : goal.returns-clause-others
returns-clause-others g c honest bytes was = c.finish_unsynced.ensures.others honest bytes was.1.0 was.1.1
