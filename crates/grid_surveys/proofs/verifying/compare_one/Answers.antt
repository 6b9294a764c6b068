use Rattle.grid_surveys.proofs.verifying.compare_one.Goals as goal

pub returns : goal.returns
returns g c = (c.in_ok-verdict.ensures.0, c.in_ok-verdict.verdict, c.in_ok-verdict.ensures.1, c.in_ok-outcome_of.ensures.text, c.in_ok-outcome_of.ensures.status)
