use Rattle.std.proofs.Common.{ℕ, List, [], sym, subst}
use Rattle.download_file.specs.Answers.{IsRead}
use Rattle.download_file.specs.Right.{IsFile}
use Rattle.download_file.specs.State.{FileState, new_file}
use Rattle.request_record.specs.declared.requests.Request.{Request}
use Rattle.download_core.specs.Reading.{AreReading}
use Rattle.download_core.proofs.Started.{started}
use Rattle.download_core.specs.ReadingState.{reading_state}
use Rattle.download_core.proofs.file_reading.FileReading.new.Goals as goal

pub returns-clause-reading : goal.returns-clause-reading
returns-clause-reading c s known compared total =
    let k = c.in_ok-new.ensures in
    let n = new_file c.args.key.now c.args.ueb.now c.args.geometry.now c.args.from c.args.to in
    subst (λ (l : List ℕ). AreReading s (reading_state c.in_ok-new.field-0 l)) (sym c.new-2.ensures.items)
    (subst (λ (f : FileState). AreReading s (reading_state f [])) (sym k.file)
    (started s c.args.key.now c.args.ueb.now c.args.geometry.now c.args.from c.args.to (subst IsFile k.file k.right) known compared total
    (subst (λ (f : FileState). (entries : List Request) → IsRead entries f) k.file k.reads)))
