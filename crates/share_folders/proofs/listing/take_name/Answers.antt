use Rattle.std.proofs.Common.{sym, ◌∙◌}
use mathlib.Core.Bool.{true≢false}
use Rattle.share_folders.proofs.Taking.{on_taken, other_taken}
use Rattle.share_folders.proofs.listing.take_name.Goals as goal

pub returns-in-Some-clause-taken : goal.returns-in-Some-clause-taken
returns-in-Some-clause-taken g c =
    on_taken c.take_named.result c.args.name.now c.in-Some.named.key c.in-Some.named.digest c.args.closed.now.entries c.take_named.new.closed.entries
    (sym c.as_bytes.ensures.value ∙ c.in-Some.ensures.value) c.in-Some.ensures.named c.take_named.ensures.first c.take_named.ensures.again c.take_named.ensures.either c.take_named.ensures.others

pub returns-in-None-clause-taken : goal.returns-in-None-clause-taken
returns-in-None-clause-taken g c names taken =
    other_taken names c.args.name.now c.args.closed.now.entries
    (λ key digest named is. true≢false (sym (c.in-None.ensures.only key digest named (c.as_bytes.ensures.value ∙ is)))) taken
