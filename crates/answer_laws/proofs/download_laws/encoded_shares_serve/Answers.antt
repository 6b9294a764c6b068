use Rattle.answer_laws.proofs.Downloads.EncodedShares.{encoded_shares_serve_all}
use Rattle.answer_laws.proofs.download_laws.encoded_shares_serve.Goals as goal

pub returns : goal.returns
returns c = encoded_shares_serve_all
