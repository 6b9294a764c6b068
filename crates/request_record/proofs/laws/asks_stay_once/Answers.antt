use Rattle.request_record.proofs.AskingLaws.{once_answered, once_ticked}
use Rattle.request_record.proofs.laws.asks_stay_once.Goals as goal

pub returns-clause-answers : goal.returns-clause-answers
returns-clause-answers c = once_answered

pub returns-clause-ticks : goal.returns-clause-ticks
returns-clause-ticks c = once_ticked
