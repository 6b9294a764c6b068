use Rattle.disks.specs.Calls.{Stays}
use Rattle.disks.specs.Steps.{Removes}
use Rattle.disks.proofs.Held.{does_held, either_held, stays_held, removes_held}
use Rattle.disks.proofs.own.discard.Goals as goal

pub returns-clause-kept : goal.returns-clause-kept
returns-clause-kept g c honest =
    let s = g.D.Disk.folder c.args.disk.now in
    let name = c.args.name.now in
    let removes = removes_held s name c.requires.passing in
    does_held _ _ c.remove.result s _ removes (either_held s Stays (Removes name) (stays_held s) removes) (c.remove.ensures.gives honest)
