use Rattle.file_upload.proofs.OneGoal.{goals_are_one}
use Rattle.file_upload.proofs.laws.goals_are_one.Goals as goal

pub returns : goal.returns
returns c = goals_are_one
