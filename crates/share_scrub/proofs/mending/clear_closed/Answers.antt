use Rattle.std.proofs.Common.{Some}
use Rattle.share_files.proofs.Going.{before}
use Rattle.share_scrub.proofs.Counting.{err_counted}
use Rattle.share_scrub.proofs.mending.clear_closed.Goals as goal

pub returns-in_err-closed_fate-clause-goes : goal.returns-in_err-closed_fate-clause-goes
returns-in_err-closed_fate-clause-goes g c = λ of.
    err_counted (Some c.args.wanted.now) c.args.files.now c.closed_fate.new.files _ c.from_residual.result c.from_residual.ensures.1 (c.closed_fate.ensures.goes (Some c.args.wanted.now))

pub returns-in_err-set_aside-in-SetAside-clause-goes : goal.returns-in_err-set_aside-in-SetAside-clause-goes
returns-in_err-set_aside-in-SetAside-clause-goes g c = λ of.
    let none = rw c.in-SetAside.is at c.in_ok-closed_fate.ensures.fate in
    err_counted (Some c.args.wanted.now) c.args.files.now c.set_aside.new.files _ c.from_residual-in_err-set_aside-in-SetAside.result c.from_residual-in_err-set_aside-in-SetAside.ensures.1
    (before (Some c.args.wanted.now) 0 0 c.args.files.now c.closed_fate.new.files c.set_aside.new.files (c.closed_fate.ensures.goes (Some c.args.wanted.now)) (c.in_err-set_aside-in-SetAside.ensures.goes of none))

pub returns-in-Aside-clause-goes : goal.returns-in-Aside-clause-goes
returns-in-Aside-clause-goes g c = λ of.
    let none = rw c.in-SetAside.is at c.in_ok-closed_fate.ensures.fate in
    before (Some c.args.wanted.now) 1 0 c.args.files.now c.closed_fate.new.files c.set_aside.new.files (c.closed_fate.ensures.goes (Some c.args.wanted.now))
    (rw c.in-Aside.is at (c.in_ok-set_aside-in-SetAside.ensures.goes of none))

pub returns-in-Back-clause-goes : goal.returns-in-Back-clause-goes
returns-in-Back-clause-goes g c = λ of.
    let none = rw c.in-SetAside.is at c.in_ok-closed_fate.ensures.fate in
    before (Some c.args.wanted.now) 0 0 c.args.files.now c.closed_fate.new.files c.set_aside.new.files (c.closed_fate.ensures.goes (Some c.args.wanted.now))
    (rw c.in-Back.is at (c.in_ok-set_aside-in-SetAside.ensures.goes of none))

pub returns-in-Odd-clause-goes : goal.returns-in-Odd-clause-goes
returns-in-Odd-clause-goes g c = λ of. c.closed_fate.ensures.goes (Some c.args.wanted.now)

pub returns-in-Keep-clause-goes : goal.returns-in-Keep-clause-goes
returns-in-Keep-clause-goes g c = λ of. c.closed_fate.ensures.goes (Some c.args.wanted.now)
