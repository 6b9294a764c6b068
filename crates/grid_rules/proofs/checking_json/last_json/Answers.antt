use Rattle.std.proofs.Common.{◌≡◌, IfOk, List, ℕ, string_bytes, subst}
use Rattle.grid_rules.specs.ReportJson.{bool_json, last_object}
use Rattle.grid_rules.proofs.checking_json.last_json.Goals as goal

pub returns : goal.returns
returns c =
    let r = c.args.report.now in
    subst
    (λ (healthy : List ℕ). IfOk c.last_object.result (λ text. string_bytes text
    ≡ last_object healthy (bool_json r.recoverable) r.happiness))
    c.bool_json-healthy.ensures
    (subst
    (λ (recoverable : List ℕ). IfOk c.last_object.result (λ text. string_bytes text
    ≡ last_object c.bool_json-healthy.result.now recoverable r.happiness))
    c.bool_json-recoverable.ensures c.last_object.ensures)
