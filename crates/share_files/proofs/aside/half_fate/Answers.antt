use Rattle.share_files.proofs.Going.{before, failed, judged}
use Rattle.share_files.proofs.aside.half_fate.Goals as goal

pub returns-in_err-verdict-in-Read-clause-goes : goal.returns-in_err-verdict-in-Read-clause-goes
returns-in_err-verdict-in-Read-clause-goes g c = λ any.
    before any 0 0 c.args.files.now c.fate_by_look.new.files c.judge.new.self (c.fate_by_look.ensures.goes any) (failed any _ _ c.fate_by_look.new.files c.judge.new.self c.in_err-verdict-in-Read.ensures.err)

pub returns-in_ok-verdict-in-Read-clause-goes : goal.returns-in_ok-verdict-in-Read-clause-goes
returns-in_ok-verdict-in-Read-clause-goes g c = λ any.
    before any 0 0 c.args.files.now c.fate_by_look.new.files c.judge.new.self (c.fate_by_look.ensures.goes any) (judged any _ _ _ c.fate_by_look.new.files c.judge.new.self c.in_ok-verdict-in-Read.ensures.judged)
