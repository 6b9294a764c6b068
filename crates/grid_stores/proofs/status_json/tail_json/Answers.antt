use Rattle.std.proofs.Common.{◌≡◌, IfOk, string_bytes, subst}
use Rattle.grid_stores.specs.declared.states.Totals.{Totals}
use Rattle.grid_stores.specs.StatusJson.{totals_json}
use Rattle.grid_stores.proofs.status_json.tail_json.Goals as goal

pub returns : goal.returns
returns c = subst (λ (t : Totals). IfOk c.totals_json.result (λ text. string_bytes text ≡ totals_json t)) c.totals_of-totals.ensures c.totals_json.ensures
