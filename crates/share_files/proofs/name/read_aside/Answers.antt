use Rattle.std.proofs.Common.{◌∙◌, sym, ap}
use Rattle.std.specs.Prelude.{IsSome}
use mathlib.Core.Bool.{true≢false}
use Rattle.share_files.specs.Name.{aside_name}
use Rattle.share_files.proofs.AsideNames.{by_number}
use Rattle.share_files.proofs.name.read_aside.Goals as goal

pub returns-in-None-clause-only : goal.returns-in-None-clause-only
returns-in-None-clause-only c = λ key digest number named counted is.
    by_number (IsSome c.read_numbered-in-None.result) number counted
    (λ one. absurd (true≢false (sym (rw c.in_default.is at (c.read_first_aside.ensures.only key digest named (is ∙ ap (aside_name key digest) one))))))
    (λ other len. absurd (true≢false (sym (rw c.in-None.is at (c.read_numbered.ensures.only key digest number named other counted len is)))))
    (λ other len. c.read_numbered-in-None.ensures.only key digest number named other counted len is)
