use Rattle.std.proofs.Common.{◌≡◌, ◌∙◌, IfOk, List, ℕ, string_bytes, subst}
use Rattle.cap_text.specs.Base32.{base32}
use Rattle.grid_rules.specs.ScrubLines.{finding_object, state_text}
use Rattle.grid_rules.proofs.scrubbing.finding_json.Goals as goal

pub returns : goal.returns
returns c =
    let f = c.args.found.now in
    subst
    (λ (server : List ℕ). IfOk c.finding_object.result (λ line. string_bytes line
    ≡ finding_object server (base32 f.file.key.0) f.file.key.1 (state_text f.state)))
    (c.as_str.ensures.value ∙ c.in_ok-name.ensures)
    (subst
    (λ (index : List ℕ). IfOk c.finding_object.result (λ line. string_bytes line
    ≡ finding_object c.as_str.result.now index f.file.key.1 (state_text f.state)))
    (c.as_str-2.ensures.value ∙ c.in_ok-index.ensures.text)
    (subst
    (λ (state : List ℕ). IfOk c.finding_object.result (λ line. string_bytes line
    ≡ finding_object c.as_str.result.now c.as_str-2.result.now f.file.key.1 state))
    (c.as_str-3.ensures.value ∙ c.in_ok-state.ensures)
    c.finding_object.ensures))
