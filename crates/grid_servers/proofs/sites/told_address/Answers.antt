use Rattle.std.proofs.Common.{refl}
use Rattle.std.proofs.lemmas.Result.{IfOk-weaker}
use Rattle.grid_servers.proofs.Lines.{if_none, line_writes_none, no_line_writes_none}
use Rattle.grid_servers.proofs.sites.told_address.Goals as goal

pub returns-in-Some-clause-none : goal.returns-in-Some-clause-none
returns-in-Some-clause-none c =
    IfOk-weaker c.written_address.result _ _
    (λ found none. if_none found (line_writes_none c.args.text.now c.in-Some.line.now c.in-Some.ensures.some) none)
    c.written_address.ensures.none

pub returns-in-None-clause-none : goal.returns-in-None-clause-none
returns-in-None-clause-none c = no_line_writes_none c.args.text.now (c.in-None.ensures.none refl)
