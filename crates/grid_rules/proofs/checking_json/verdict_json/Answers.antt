use Rattle.std.proofs.Common.{◌≡◌, ◌∙◌, IfOk, List, ℕ, string_bytes, subst}
use Rattle.grid_rules.specs.ReportJson.{verdict_object}
use Rattle.grid_rules.specs.ReportLines.{verdict_text}
use Rattle.grid_rules.proofs.checking_json.verdict_json.Goals as goal

pub returns : goal.returns
returns c =
    let v = c.args.found.now in
    subst
    (λ (server : List ℕ). IfOk c.verdict_object.result (λ text. string_bytes text
    ≡ verdict_object server v.share (verdict_text v.verdict)))
    (c.as_str.ensures.value ∙ c.in_ok-server.ensures)
    (subst
    (λ (verdict : List ℕ). IfOk c.verdict_object.result (λ text. string_bytes text
    ≡ verdict_object c.as_str.result.now v.share verdict))
    c.verdict_text.ensures c.verdict_object.ensures)
