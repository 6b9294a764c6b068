-- Bytes that were written and sent on.
use Rattle.std.proofs.Common.{◌≡◌, ℕ, List, ◌++◌, Option, None, Some, ◌∙◌}
use Rattle.std.specs.Io.KnownBytes.{Appends, Keeps}

pub appended_kept : (a b c : Option (List ℕ)) (bs : List ℕ) → Appends a b bs → Keeps b c → Appends a c bs
appended_kept None b c bs p q = tt
appended_kept (Some x) None c bs p q = absurd p
appended_kept (Some x) (Some y) None bs p q = absurd q
appended_kept (Some x) (Some y) (Some z) bs p q = q ∙ p
