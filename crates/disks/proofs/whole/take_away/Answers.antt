use Rattle.disks.specs.Calls.{Either, Stays}
use Rattle.disks.specs.Steps.{Removes}
use Rattle.disks.specs.Whole.{Beside}
use Rattle.disks.proofs.Sparing.{does_keep, either_so, passes_keep, removes_so, stays_so}
use Rattle.disks.proofs.OwnNames.{removes_own, removes_stand}
use Rattle.disks.proofs.whole.take_away.Goals as goal

pub returns-clause-kept : goal.returns-clause-kept
returns-clause-kept g c honest =
    let s = g.D.Disk.folder c.args.disk.now in
    let own = c.args.own.now in
    let removes = removes_so own (Beside own) s (λ name other asked. asked) in
    does_keep own (Beside own) _ _ c.remove.result s _
    (either_so own (Beside own) s (Removes own) (Either Stays (Removes own)) removes (either_so own (Beside own) s Stays (Removes own) (stays_so own (Beside own) s) removes))
    (c.remove.ensures.gives honest)

pub returns-clause-any_moment : goal.returns-clause-any_moment
returns-clause-any_moment g c honest =
    let s = g.D.Disk.folder c.args.disk.now in
    let own = c.args.own.now in
    let removes = removes_so own (Beside own) s (λ name other asked. asked) in
    passes_keep own (Beside own) _ s _ _
    (either_so own (Beside own) s (Removes own) (Either Stays (Removes own)) removes (either_so own (Beside own) s Stays (Removes own) (stays_so own (Beside own) s) removes))
    (c.remove.ensures.passes honest)

pub returns-clause-stands : goal.returns-clause-stands
returns-clause-stands g c honest name bytes lasting apart stands =
    removes_stand _ c.args.own.now name bytes c.remove.result _ _ lasting apart (c.remove.ensures.gives honest) stands

pub returns-clause-owned : goal.returns-clause-owned
returns-clause-owned g c honest name bytes apart is =
    (is.0, removes_own _ c.args.own.now name is.0 _ c.remove.result _ _ apart (c.remove.ensures.gives honest) is.1)
