use Rattle.std.proofs.Common.{IfNone, IfSome, ℕ, subst}
use Rattle.download_shares.specs.Choice.{NoneIsFreeBefore}
use Rattle.download_shares.specs.HoldingState.{HoldingsState}
use Rattle.download_shares.specs.Table.{IsHolding, NoneIsFree}
use Rattle.download_shares.specs.declared.holding.Holding.{Holding}
use Rattle.download_shares.proofs.holdings.Holdings.choose.Goals as goal

pub returns-clause-none : goal.returns-clause-none
returns-clause-none c = subst (λ (s : HoldingsState). IfNone c.choose.result (NoneIsFree s.table)) c.self.view_is c.choose.ensures.none

pub returns-clause-lowest : goal.returns-clause-lowest
returns-clause-lowest c =
    subst (λ (s : HoldingsState). IfSome c.choose.result (λ (position : ℕ). (h : Holding) → IsHolding s.table position h → NoneIsFreeBefore s.table h.share)) c.self.view_is c.choose.ensures.lowest
