use Rattle.std.proofs.Common.{sym}
use Rattle.std.proofs.lemmas.List.{take_rest}
use Rattle.ueb.proofs.Text.{no_colon_in, no_colon_before, split_at_it}
use Rattle.ueb.proofs.fields.split_at_colon.Goals as goal

pub returns-in_err-colon-clause-none : goal.returns-in_err-colon-clause-none
returns-in_err-colon-clause-none c = rw c.from_residual.ensures (no_colon_in c.args.bytes.now (sym c.in_err-colon.ensures))

pub returns-clause-found : goal.returns-clause-found
returns-clause-found c =
    rw take_rest (split_at_it c.args.bytes.now c.in_ok-colon.colon (sym c.in_ok-colon.ensures))

pub returns-clause-first : goal.returns-clause-first
returns-clause-first c = no_colon_before c.args.bytes.now c.in_ok-colon.colon (sym c.in_ok-colon.ensures)
