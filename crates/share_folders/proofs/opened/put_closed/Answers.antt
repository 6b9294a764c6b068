use Rattle.std.proofs.Common.{arith}
use Rattle.share_folders.proofs.opened.put_closed.Goals as goal

pub returns-in_ok-close_file-in-Vacant-clause-closed : goal.returns-in_ok-close_file-in-Vacant-clause-closed
returns-in_ok-close_file-in-Vacant-clause-closed g c = grind (arith, c.in_ok-room.ensures.update.1 c.args.share.now)
