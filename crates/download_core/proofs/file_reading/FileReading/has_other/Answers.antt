use Rattle.std.proofs.Common.{◌≡◌, ◌∙◌, ℕ, IfNone, Option, Some, None, is_some, false, subst, sym, true≢false}
use Rattle.download_shares.specs.HoldingState.{HoldingsState}
use Rattle.download_shares.specs.Table.{NoneIsFree}
use Rattle.download_core.proofs.file_reading.FileReading.has_other.Goals as goal

none_then : (o : Option ℕ) (P : Type 0) → IfNone o P → is_some o ≡ false → P
none_then None P is e = is
none_then (Some x) P is e = absurd (true≢false e)

pub returns-in-None : goal.returns-in-None
returns-in-None c = λ no. record {
  free = subst (λ (x : HoldingsState). NoneIsFree x.table) c.holdings.ensures c.in-None.ensures.none;
  idle = none_then c.first_idle.result _ c.first_idle.ensures.none (sym c.is_some.ensures ∙ no);
}
