use Rattle.download_core.proofs.Ended.{continues_none}
use Rattle.download_core.proofs.Heard.{heard_bytes, heard_kept, heard_live}
use Rattle.download_core.proofs.file_reading.FileReading.follow.Goals as goal

pub end_gone-requires-clause-kept : goal.end_gone-requires-clause-kept
end_gone-requires-clause-kept c =
    let k = c.requires.heard in
    heard_kept k.before c.args.beginnings.now c.args.self.now k.from k.message k.now c.args.news k.reading k.hears k.known k.bytes

pub end_gone-requires-clause-live : goal.end_gone-requires-clause-live
end_gone-requires-clause-live c =
    let k = c.requires.heard in
    heard_live k.before c.args.beginnings.now c.args.self.now k.from k.message k.now c.args.news k.reading k.hears k.known k.bytes

pub returns-in-Bytes-clause-linked : goal.returns-in-Bytes-clause-linked
returns-in-Bytes-clause-linked c =
    heard_bytes c.args.beginnings.now c.args.self.now c.args.news c.requires.heard _ _ c.in-Bytes.is

pub returns-in-Bytes-clause-continues : goal.returns-in-Bytes-clause-continues
returns-in-Bytes-clause-continues c = continues_none c.args.beginnings.now c.args.self.now
