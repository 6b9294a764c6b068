-- Laws of files that are read.
use Rattle.std.specs.Prelude.{ℕ, List}
use Rattle.request_record.specs.declared.requests.Request.{Request}
use Rattle.download_shares.specs.declared.holding.Blame.{Blame}
use Rattle.download_shares.specs.Known.{AreBegun}
use Rattle.download_shares.specs.BeginningState.{BeginningsState}
use Rattle.download_file.specs.Answers.{HoldsFor}
use Rattle.download_file.specs.State.{FileState}
use Rattle.download_core.specs.ReadingCauses.{IsBlockFault}
use Rattle.download_core.specs.Reading.{AreReading}
use Rattle.download_core.specs.ReadingState.{ReadingState}

-- only these requests are still to be sent
abbrev pub with_outgoing : List ℕ → BeginningsState → BeginningsState
with_outgoing outgoing s = record s {
  holdings = record s.holdings {
    requests = record s.holdings.requests { outgoing = outgoing };
  };
}

-- a law: what is read does not depend on which requests are still to be sent
abbrev pub SendingStays : Type 0
SendingStays = (s : BeginningsState) (outgoing : List ℕ) → AreBegun s
    → AreBegun (with_outgoing outgoing s)
    × ((r : ReadingState) → AreReading s r → AreReading (with_outgoing outgoing s) r)

-- a law: where a share is blamed for a block, all that the reader of the block holds is what the
-- blamed server answered of the blamed share
abbrev pub BlocksAreAnswered : Type 0
BlocksAreAnswered = (entries : List Request) (f : FileState) (b : Blame)
    → (fault : IsBlockFault entries f b)
    → HoldsFor entries b.server b.share fault.refuted.r.supply
