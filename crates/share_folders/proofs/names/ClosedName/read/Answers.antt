use Rattle.std.proofs.Common.{rules, ◌≡◌}
use Rattle.cap_text.specs.Base32.{base32}
use Rattle.share_folders.proofs.NameLaws.{letters_32}
use Rattle.share_folders.proofs.names.ClosedName.read.Goals as goal

pub returns-in_err-key-clause-only : goal.returns-in_err-key-clause-only
returns-in_err-key-clause-only c = λ key digest named is.
    absurd (rw c.in_err-key.was at (c.split_name.ensures.only key (base32 digest) (named.0, named.1) (letters_32 digest named.2.len) is))

pub returns-then-not-from_base32-clause-only : goal.returns-then-not-from_base32-clause-only
returns-then-not-from_base32-clause-only c = λ key digest named is.
    let text : c.in_ok-key.digest_text.now ≡ base32 digest = rw c.in_ok-key.was at (c.split_name.ensures.only key (base32 digest) (named.0, named.1) (letters_32 digest named.2.len) is) in
    let yes = (c.from_base32.ensures.only digest named.2 text).0 in
    search rules
