use Rattle.grid_shares.proofs.numbers.read_choices.Goals as goal

pub returns-clause-choices : goal.returns-clause-choices
returns-clause-choices g c = record { numbers = c.in_ok-params.ensures; secret = c.in_ok-said.ensures.secret }
