use Rattle.file_encoding.proofs.OwnEvidence.{own_evidence_is_within}
use Rattle.file_encoding.proofs.laws.own_evidence_is_within.Goals as goal

pub returns : goal.returns
returns c = own_evidence_is_within
