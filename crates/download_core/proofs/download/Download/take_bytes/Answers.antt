use Rattle.download_core.specs.Steps.{state_of}
use Rattle.download_core.proofs.HashedLemmas.{taken_if}
use Rattle.download_core.proofs.download.Download.take_bytes.Goals as goal

pub invariant_of-self : goal.invariant_of-self
invariant_of-self c = c.take_piece.ensures.kept c.self.inside.status c.self.invariant

pub returns-clause-given : goal.returns-clause-given
returns-clause-given c =
    let d = c.self.inside in
    taken_if (state_of d.machine d.servers.items d.status) (state_of c.take_piece.new.self d.servers.items d.status) c.take_piece.result c.self.invariant.file
    (c.take_piece.ensures.takes d.servers.items d.status)
