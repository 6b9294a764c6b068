use Rattle.download_core.proofs.file_reading.FileReading.begin_one.Goals as goal

pub resume-requires-clause-aside : goal.resume-requires-clause-aside
resume-requires-clause-aside c = c.in-Some.ensures.idle.aside
