use Rattle.std.proofs.Common.{rules}
use Rattle.file_upload.proofs.repair.remake.Goals as goal

pub returns-in_err-file-clause-inconsistent : goal.returns-in_err-file-clause-inconsistent
returns-in_err-file-clause-inconsistent c = λ is. c.in_err-file.ensures.inconsistent (search rules)

pub returns-clause-made : goal.returns-clause-made
returns-clause-made c = c.make_shares.ensures.regenerated c.args.cap.now _ _ c.in_ok-file.ensures.decoded

pub returns-clause-passing : goal.returns-clause-passing
returns-clause-passing c = c.make_shares.ensures.pass c.args.cap.now _ _ c.in_ok-file.ensures.decoded

pub returns-clause-inconsistent : goal.returns-clause-inconsistent
returns-clause-inconsistent c = c.make_shares.ensures.inconsistent c.args.cap.now _ _ c.in_ok-file.ensures.decoded
