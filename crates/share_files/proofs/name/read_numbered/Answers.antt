use Rattle.std.proofs.Common.{◌≡◌, ◌∙◌, sym}
use mathlib.Core.Bool.{true≢false}
use Rattle.share_folders.specs.Names.{closed_name}
use Rattle.share_files.proofs.AsideNames.{front_part, number_part}
use Rattle.share_files.proofs.name.read_numbered.Goals as goal

pub returns-in_err-number-clause-only : goal.returns-in_err-number-clause-only
returns-in_err-number-clause-only c = λ key digest number named other few len is.
    let text = c.split_at.ensures.back ∙ number_part c.args.name.now (closed_name key digest) number c.args.digits other len is in
    absurd (true≢false (sym (rw c.in_err-number.was at (c.read_number.ensures.only number other few text))))

pub returns-in_err-front_of-clause-only : goal.returns-in_err-front_of-clause-only
returns-in_err-front_of-clause-only c = λ key digest number named other few len is.
    let front = c.split_at.ensures.front ∙ front_part c.args.name.now (closed_name key digest) number c.args.digits other len is in
    absurd (rw c.in_err-front_of.was at (c.front_of.ensures.only (closed_name key digest) front))

pub returns-clause-only : goal.returns-clause-only
returns-clause-only c = λ key digest number named other few len is.
    let front = c.split_at.ensures.front ∙ front_part c.args.name.now (closed_name key digest) number c.args.digits other len is in
    let closed : c.in_ok-front_of.field-0.now ≡ closed_name key digest = rw c.in_ok-front_of.was at (c.front_of.ensures.only (closed_name key digest) front) in
    c.numbered_file.ensures.only key digest named closed
