use Rattle.std.proofs.Common.{refl, ap, ◌∙◌}
use Rattle.sha2.specs.Sha256.{add_state, compress, rounds}
use Rattle.sha2_lanes.proofs.group.compress.Goals as goal

pub returns : goal.returns
unfolding compress rounds
returns c = λ b is.
    let v16 = c.sixteen_steps-v16.ensures b c.args.hash is refl in
    let v32 = c.sixteen_steps-v32.ensures b c.args.hash is v16 in
    let v48 = c.sixteen_steps-v48.ensures b c.args.hash is v32 in
    c.add_state.ensures ∙ ap (add_state c.args.hash) (c.sixteen_steps.ensures b c.args.hash is v48)
