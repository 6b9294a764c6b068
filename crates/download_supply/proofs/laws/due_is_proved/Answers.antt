use Rattle.download_supply.proofs.UpperLemmas.{due_is_proved}
use Rattle.download_supply.proofs.laws.due_is_proved.Goals as goal

pub returns : goal.returns
returns c = due_is_proved
