use Rattle.std.proofs.Common.{subst}
use Rattle.download_shares.specs.HoldingState.{HoldingsState}
use Rattle.download_shares.specs.Table.{NoneIsFree}
use Rattle.download_core.proofs.file_reading.FileReading.begin_other.Goals as goal

pub returns-in-None-clause-none : goal.returns-in-None-clause-none
returns-in-None-clause-none c = λ e.
    (subst (λ (x : HoldingsState). NoneIsFree x.table) c.holdings.ensures c.in-None.ensures.none, c.resume_first.ensures.none e)
