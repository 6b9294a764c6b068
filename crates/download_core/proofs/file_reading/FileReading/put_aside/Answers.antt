use Rattle.std.proofs.Common.{◌<◌, length, ap, arith, subst, sym}
use Rattle.lemmas.proofs.Results.{on_ok_then}
use Rattle.download_file.specs.State.{IsLive}
use Rattle.download_core.specs.Reading.{AreReading}
use Rattle.download_core.specs.ReadingState.{ReadingState, reading_state}
use Rattle.download_core.specs.ReadingSteps.{Continues}
use Rattle.download_core.proofs.Ended.{fewer}
use Rattle.download_core.proofs.Fields.{seen}
use Rattle.download_core.proofs.Listed.{put_back, put_forth}
use Rattle.download_core.proofs.Relisted.{on_ok_two, relisted, relisted_continues}
use Rattle.download_core.proofs.file_reading.FileReading.put_aside.Goals as goal

pub returns-clause-reading : goal.returns-clause-reading
returns-clause-reading c =
    let bs = c.args.beginnings.now in
    let r : ReadingState = seen c.self.inside in
    let f = c.put_aside.new.self in
    let k = c.put_aside.ensures in
    let before : AreReading bs r = subst (AreReading bs) (sym c.self.view_is) c.requires.reading in
    let live : IsLive r.file c.args.reader = subst (λ (x : ReadingState). IsLive x.file c.args.reader) (sym c.self.view_is) c.requires.live in
    on_ok_two c.put_aside.result _ _ (AreReading bs (reading_state f c.self.inside.holdings.items)) k.live k.aside
    (λ lives asides. relisted bs r f before (put_back r.file f c.args.reader live lives asides) (put_forth r.file f c.args.reader lives asides)
    k.copies k.waiting k.asked k.reads k.right k.same.geometry)

pub returns-clause-continues : goal.returns-clause-continues
returns-clause-continues c =
    let bs = c.args.beginnings.now in
    let k = c.put_aside.ensures in
    subst (λ (x : ReadingState). Continues bs x bs (reading_state c.put_aside.new.self c.self.inside.holdings.items)) c.self.view_is
    (relisted_continues bs (seen c.self.inside) c.put_aside.new.self k.same k.reads k.handout)

pub returns-clause-fewer : goal.returns-clause-fewer
returns-clause-fewer c =
    let live : IsLive c.self.inside.file c.args.reader = subst (λ (x : ReadingState). IsLive x.file c.args.reader) (sym c.self.view_is) c.requires.live in
    on_ok_then c.put_aside.result _ (length c.put_aside.new.self.live < length c.args.self.now.file.live) c.put_aside.ensures.live
    (λ lives.
    let less = fewer c.args.reader c.self.inside.file.live live in
    let now = ap length lives in
    let was = ap (λ (x : ReadingState). length x.file.live) c.self.view_is in
    omega (arith, less, now, was))
