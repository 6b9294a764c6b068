use Rattle.download_core.proofs.TakenLemmas.{kept_taken}
use Rattle.download_core.proofs.state.Machine.take_piece.Goals as goal

pub returns-in-Some-clause-kept : goal.returns-in-Some-clause-kept
returns-in-Some-clause-kept c = λ status k.
    kept_taken c.args.self.now c.in-Some.found c.take_piece.new.self c.take_piece.result status c.in-Some.is c.take_piece.ensures.taken c.take_piece.ensures.rest c.take_piece.ensures.reading c.take_piece.ensures.same k
