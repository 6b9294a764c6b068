use Rattle.std.proofs.Common.{Some, ap}
use Rattle.share_files.specs.Acts.{is_open}
use Rattle.share_scrub.proofs.mending.clear_file.Goals as goal

pub returns-in-Open-clause-goes : goal.returns-in-Open-clause-goes
returns-in-Open-clause-goes g c = λ of. c.clear_open.ensures (Some c.args.wanted.now) of (ap is_open c.in-Open.is)
