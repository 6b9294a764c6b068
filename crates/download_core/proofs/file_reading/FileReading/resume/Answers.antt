use Rattle.std.proofs.Common.{◌≡◌, ◌∙◌, ◌+◌, ◌∷◌, [], length, ap, subst, sym}
use Rattle.std.proofs.lemmas.List.{length-append}
use Rattle.lemmas.proofs.Results.{on_ok_then}
use Rattle.download_file.specs.State.{IsAside}
use Rattle.download_core.specs.Reading.{AreReading}
use Rattle.download_core.specs.ReadingState.{ReadingState, reading_state}
use Rattle.download_core.specs.ReadingSteps.{Continues}
use Rattle.download_core.proofs.Fields.{seen}
use Rattle.download_core.proofs.Listed.{resumed_back, resumed_forth}
use Rattle.download_core.proofs.Relisted.{on_ok_two, relisted, relisted_continues}
use Rattle.download_core.proofs.file_reading.FileReading.resume.Goals as goal

pub returns-clause-reading : goal.returns-clause-reading
returns-clause-reading c =
    let bs = c.args.beginnings.now in
    let r : ReadingState = seen c.self.inside in
    let f = c.resume.new.self in
    let k = c.resume.ensures in
    let before : AreReading bs r = subst (AreReading bs) (sym c.self.view_is) c.requires.reading in
    let aside : IsAside r.file c.args.reader = subst (λ (x : ReadingState). IsAside x.file c.args.reader) (sym c.self.view_is) c.requires.aside in
    on_ok_two c.resume.result _ _ (AreReading bs (reading_state f c.self.inside.holdings.items)) k.live k.aside
    (λ lives asides. relisted bs r f before (resumed_back r.file f c.args.reader aside lives asides) (resumed_forth r.file f c.args.reader lives asides)
    k.copies k.waiting k.asked k.reads k.right k.same.geometry)

pub returns-clause-continues : goal.returns-clause-continues
returns-clause-continues c =
    let bs = c.args.beginnings.now in
    let k = c.resume.ensures in
    subst (λ (x : ReadingState). Continues bs x bs (reading_state c.resume.new.self c.self.inside.holdings.items)) c.self.view_is
    (relisted_continues bs (seen c.self.inside) c.resume.new.self k.same k.reads k.handout)

pub returns-clause-live : goal.returns-clause-live
returns-clause-live c =
    on_ok_then c.resume.result _ (length c.resume.new.self.live ≡ length c.args.self.now.file.live + 1) c.resume.ensures.live
    (λ lives. ap length lives ∙ length-append c.self.inside.file.live (c.args.reader ∷ []) ∙ ap (λ (x : ReadingState). length x.file.live + 1) c.self.view_is)
