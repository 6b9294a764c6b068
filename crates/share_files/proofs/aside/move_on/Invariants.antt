use Rattle.std.specs.Prelude.{Option}
use Rattle.share_files.specs.declared.fate.Wanted.{Wanted}
use Rattle.share_files.specs.Acts.{IsNoneThere, IsOf}
use Rattle.share_files.specs.Going.{Goes}
use Rattle.share_files.specs.Name.{half_file}
use Rattle.share_files.proofs.aside.move_on.Given as goal

-- so far it got no name
abbrev pub invariant-loop-number : goal.invariant-loop-number
invariant-loop-number g l =
    (wanted : Option Wanted) → IsOf wanted (half_file l.name l.own) → IsNoneThere wanted (half_file l.name l.own) l.name.digest l.fn.files → Goes wanted 0 0 l.fn.files l.files
