use Rattle.std.proofs.Common.{◌≡◌, ◌∙◌, None, get_or, ap, sym}
use Rattle.std.specs.Prelude.{option_copied}
use Rattle.grid_servers.specs.Opened.{is_silent_at}
use Rattle.grid_servers.proofs.opening.is_silent.Goals as goal

pub returns-in-Some-default : goal.returns-in-Some-default
returns-in-Some-default g c =
    let nodes : c.nodes.result.now ≡ c.args.grid.now.here.nodes = c.nodes.ensures ∙ ap (λ h. h.nodes) c.here.ensures in
    let here = sym (ap (λ r. option_copied r) c.in-Some-default.is-0) ∙ c.standing_at-here.ensures ∙ λ i. get_or (nodes i) (c.from-position.ensures i) None in
    c.is_silent.ensures ∙ λ i. is_silent_at (here i) (get_or c.args.grid.now.remotes c.args.server None)

pub returns-in-None-Some : goal.returns-in-None-Some
returns-in-None-Some g c =
    let nodes : c.nodes.result.now ≡ c.args.grid.now.here.nodes = c.nodes.ensures ∙ ap (λ h. h.nodes) c.here.ensures in
    let here = sym (ap (λ r. option_copied r) c.in-None-Some.is-0) ∙ c.standing_at-here.ensures ∙ λ i. get_or (nodes i) (c.from-position.ensures i) None in
    let elsewhere = sym (ap (λ r. option_copied r) c.in-None-Some.is-1) ∙ c.standing_at-elsewhere.ensures ∙ λ i. get_or (c.remotes.ensures i) (c.from-position.ensures i) None in
    c.is_away.ensures ∙ λ i. is_silent_at (here i) (elsewhere i)

pub returns-in-None-None : goal.returns-in-None-None
returns-in-None-None g c =
    let nodes : c.nodes.result.now ≡ c.args.grid.now.here.nodes = c.nodes.ensures ∙ ap (λ h. h.nodes) c.here.ensures in
    let here = sym (ap (λ r. option_copied r) c.in-None-None.is-0) ∙ c.standing_at-here.ensures ∙ λ i. get_or (nodes i) (c.from-position.ensures i) None in
    let elsewhere = sym (ap (λ r. option_copied r) c.in-None-None.is-1) ∙ c.standing_at-elsewhere.ensures ∙ λ i. get_or (c.remotes.ensures i) (c.from-position.ensures i) None in
    λ i. is_silent_at (here i) (elsewhere i)
