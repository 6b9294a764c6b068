use Rattle.std.proofs.Common.{◌∙◌, subst, sym}
use Rattle.download_segments.specs.Handout.{TakesPiece}
use Rattle.download_file.specs.State.{FileState, file_state}
use Rattle.download_file.proofs.NewLemmas.{HasPieces, has_geometry, has_pieces}
use Rattle.download_file.proofs.Fields.{seen}
use Rattle.download_file.proofs.file.PartialFile.take_piece.Goals as goal

abbrev then : goal.After-take → FileState
then c = file_state c.take.new.self c.self.inside.plan.first c.self.inside.plan.end c.self.inside.taken c.self.inside.readers.items c.self.inside.live.items c.self.inside.aside.items c.self.inside.groups.items

taken : (c : goal.After-take) → HasPieces c.args.self.now (then c)
taken c =
    let f : FileState = seen c.self.inside in
    subst (λ (s : FileState). HasPieces s (then c)) c.self.view_is
    (has_pieces f c.take.new.self c.take.result c.self.invariant.0 c.take.ensures.right c.take.ensures.taken)

pub invariant_of-self : goal.invariant_of-self
invariant_of-self c = ((taken c).right, c.self.invariant.1 ∙ sym (has_geometry _ c.take.new.self c.take.result c.take.ensures.taken))

pub returns-clause-taken : goal.returns-clause-taken
returns-clause-taken c = subst (λ (s : FileState). TakesPiece s.handout c.take.result c.take.new.self) c.self.view_is c.take.ensures.taken

pub returns-clause-right : goal.returns-clause-right
returns-clause-right c = (taken c).right

pub returns-clause-reads : goal.returns-clause-reads
returns-clause-reads c = (taken c).reads

pub returns-clause-asked_up : goal.returns-clause-asked_up
returns-clause-asked_up c = (taken c).asked_up

pub returns-clause-same : goal.returns-clause-same
returns-clause-same c = (taken c).same
