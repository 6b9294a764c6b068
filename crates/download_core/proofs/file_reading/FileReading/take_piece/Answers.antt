use Rattle.std.proofs.Common.{ℕ, List, Contains, sym, subst, ap}
use Rattle.download_file.specs.State.{FileState}
use Rattle.download_core.specs.Reading.{AreReading}
use Rattle.download_core.specs.ReadingState.{ReadingState}
use Rattle.download_core.proofs.Made.{all_made}
use Rattle.download_core.proofs.Fields.{seen}
use Rattle.download_core.proofs.file_reading.FileReading.take_piece.Goals as goal

pub returns-clause-reading : goal.returns-clause-reading
returns-clause-reading c s before =
    let r : ReadingState = seen c.self.inside in
    let reading : AreReading s r = subst (AreReading s) (sym c.self.view_is) before in
    let k = c.take_piece.ensures in
    all_made s r c.take_piece.new.self reading (ap (λ (f : FileState). f.live) k.rest) (ap (λ (f : FileState). f.aside) k.rest) (ap (λ (f : FileState). f.readers) k.rest) k.asked
    (k.reads s.holdings.requests.entries reading.linked.kept.answers) k.right k.same

-- what was asked stays asked
pub invariant_of-self : goal.invariant_of-self
invariant_of-self c e q live =
    c.take_piece.ensures.asked_up q (c.self.invariant e q (subst (λ (l : List ℕ). Contains l q) (ap (λ (f : FileState). f.live) c.take_piece.ensures.rest) live))
