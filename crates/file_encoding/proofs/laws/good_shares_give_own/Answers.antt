use Rattle.file_encoding.proofs.RemadeOwn.{good_shares_give_own}
use Rattle.file_encoding.proofs.laws.good_shares_give_own.Goals as goal

pub returns : goal.returns
returns c = good_shares_give_own
