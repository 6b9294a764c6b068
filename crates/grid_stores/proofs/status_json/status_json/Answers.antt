use Rattle.std.proofs.Common.{◌++◌, List, ℕ, ap, ◌∙◌}
use Rattle.grid_stores.specs.declared.states.ServerState.{ServerState}
use Rattle.grid_stores.specs.StatusJson.{head_json, server_objects, tail_json}
use Rattle.grid_stores.proofs.status_json.status_json.Goals as goal

pub returns : goal.returns
returns c =
    c.in_ok-push_servers.ensures ∙ ap (λ (l : List ℕ). l ++ (server_objects c.as_slice.result.now ++ tail_json c.as_slice.result.now)) c.in_ok-text.ensures
    ∙ ap (λ (s : List ServerState). head_json c.args.grid.now ++ (server_objects s ++ tail_json s)) c.as_slice.ensures.value
