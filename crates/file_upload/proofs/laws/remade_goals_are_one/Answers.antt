use Rattle.file_upload.proofs.OneGoal.{remade_goals_are_one}
use Rattle.file_upload.proofs.laws.remade_goals_are_one.Goals as goal

pub returns : goal.returns
returns c = remade_goals_are_one
