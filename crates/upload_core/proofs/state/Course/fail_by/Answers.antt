use Rattle.std.proofs.Common.{sym, subst}
use Rattle.upload_core.specs.declared.state.Course.TheInside.{Inside}
use Rattle.upload_core.specs.declared.pieces.PieceFault.TheVariants.{OutOfMemory}
use Rattle.upload_core.specs.declared.status.UploadStatus.TheVariants.{Failed}
use Rattle.upload_core.specs.Course.{IsCourse}
use Rattle.upload_core.proofs.Fields.{seen}
use Rattle.upload_core.proofs.Right.{course_status}
use Rattle.upload_core.proofs.state.Course.fail_by.Goals as goal
use Rattle.upload_core.proofs.state.Course.fail_by.Goals.{then-is_err+in-Happy-1, then-is_err+in-Unhappy-1, then-is_err+in-Running-1, else-is_err}

pub invariant_of-self : goal.invariant_of-self
invariant_of-self c =
    let failed : IsCourse (record (seen c.self.inside) { status = Failed OutOfMemory }) = course_status (seen c.self.inside) (Failed OutOfMemory) c.self.invariant in
    elim c.if-is_err.branch [
      | then-is_err+in-Happy-1 w ↦ subst (λ (s : Inside). IsCourse (seen s)) (sym w.self-inside-is) failed
      | then-is_err+in-Unhappy-1 w ↦ subst (λ (s : Inside). IsCourse (seen s)) (sym w.self-inside-is) failed
      | then-is_err+in-Running-1 w ↦ subst (λ (s : Inside). IsCourse (seen s)) (sym w.self-inside-is) failed
      | else-is_err w ↦ subst (λ (s : Inside). IsCourse (seen s)) (sym w.self-inside-is) c.self.invariant
    ]

pub returns-clause-right : goal.returns-clause-right
returns-clause-right c = invariant_of-self c
