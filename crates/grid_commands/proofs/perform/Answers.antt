use Rattle.grid_commands.proofs.perform.Goals as goal

pub returns : goal.returns
returns g c = record { ended = c.run-ended.result; run = c.run-ended.ensures; exit = c.exit_of.ensures }
