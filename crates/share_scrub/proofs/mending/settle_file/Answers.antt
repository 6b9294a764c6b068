use Rattle.std.proofs.Common.{refl}
use Rattle.share_files.proofs.Going.{same_index}
use Rattle.share_scrub.proofs.mending.settle_file.Goals as goal

pub returns-in-Ok-Aside-clause-counted : goal.returns-in-Ok-Aside-clause-counted
returns-in-Ok-Aside-clause-counted g c = λ wanted of. rw c.in-Ok-Aside.field-0-is at (c.in-Ok-Aside.ensures-1 wanted (same_index wanted c.args.file.now _ refl of))

pub returns-in-Err-clause-counted : goal.returns-in-Err-clause-counted
returns-in-Err-clause-counted g c = λ wanted of. c.in-Err.ensures wanted (same_index wanted c.args.file.now _ refl of)

pub returns-in-Ok-Back-clause-counted : goal.returns-in-Ok-Back-clause-counted
returns-in-Ok-Back-clause-counted g c = λ wanted of. rw c.in-Ok-Back.field-0-is at (c.in-Ok-Back.ensures-1 wanted (same_index wanted c.args.file.now _ refl of))

pub returns-in-Err-2-clause-counted : goal.returns-in-Err-2-clause-counted
returns-in-Err-2-clause-counted g c = λ wanted of. c.in-Err.ensures wanted (same_index wanted c.args.file.now _ refl of)
