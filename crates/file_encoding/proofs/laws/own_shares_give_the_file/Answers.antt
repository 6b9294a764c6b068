use Rattle.file_encoding.proofs.OwnReading.{own_shares_give_the_file}
use Rattle.file_encoding.proofs.laws.own_shares_give_the_file.Goals as goal

pub returns : goal.returns
returns c = own_shares_give_the_file
