use Rattle.std.proofs.Common.{◌≡◌, ◌∙◌, ◌++◌, codes, sym}
use mathlib.Core.Bool.{true≢false}
use Rattle.cap_text.specs.Base32.{base32}
use Rattle.share_folders.specs.Names.{closed_name}
use Rattle.share_files.proofs.AsideNames.{closed_part, long_enough, own_part}
use Rattle.share_files.proofs.name.read_half.Goals as goal

pub returns-then-front-lt-OWN_END-clause-only : goal.returns-then-front-lt-OWN_END-clause-only
returns-then-front-lt-OWN_END-clause-only c = λ key digest own named sized is.
    let front : c.in_ok-front.front.now ≡ closed_name key digest ++ codes "." ++ base32 own = rw c.in_ok-front.was at (c.front_of.ensures.only (closed_name key digest ++ codes "." ++ base32 own) is) in
    absurd (long_enough c.in_ok-front.front.now (closed_name key digest) own sized front c.if-front-lt-OWN_END.true)

pub returns-in_err-own-clause-only : goal.returns-in_err-own-clause-only
returns-in_err-own-clause-only c = λ key digest own named sized is.
    let front : c.in_ok-front.front.now ≡ closed_name key digest ++ codes "." ++ base32 own = rw c.in_ok-front.was at (c.front_of.ensures.only (closed_name key digest ++ codes "." ++ base32 own) is) in
    let text = c.split_at.ensures.back ∙ own_part c.in_ok-front.front.now (closed_name key digest) own sized front in
    absurd (true≢false (sym (rw c.in_err-own.was at (c.read_own.ensures.only own sized text))))

pub returns-in_err-closed-clause-only : goal.returns-in_err-closed-clause-only
returns-in_err-closed-clause-only c = λ key digest own named sized is.
    let front : c.in_ok-front.front.now ≡ closed_name key digest ++ codes "." ++ base32 own = rw c.in_ok-front.was at (c.front_of.ensures.only (closed_name key digest ++ codes "." ++ base32 own) is) in
    let text = c.split_at.ensures.front ∙ closed_part c.in_ok-front.front.now (closed_name key digest) own sized front in
    absurd (true≢false (sym (rw c.in_err-closed.was at (c.read.ensures.only key digest named text))))
