use Rattle.std.proofs.Common.{◌∙◌, ℕ, List, ap, subst, sym}
use Rattle.std.specs.Prelude.{IfOk}
use Rattle.world_operations.specs.declared.job.Job.{Job}
use Rattle.world_operations.specs.declared.job.Job.TheVariants.{Changing, Upload}
use Rattle.world_operations.specs.Moves.{Begins}
use Rattle.world_operations.proofs.task.Task.begin.Goals as goal

pub returns-in-Upload-clause-begins : goal.returns-in-Upload-clause-begins
returns-in-Upload-clause-begins c =
    subst (λ (job : Job). IfOk c.begin_upload.result (Begins job c.args.servers.now c.args.nodes.now c.args.session c.args.now))
    (ap (λ (f : List ℕ). Upload f c.as_slice-in-Upload.result.now c.in-Upload.params) c.as_slice.ensures
    ∙ ap (λ (f : List ℕ). Upload c.in-Upload.file f c.in-Upload.params) c.as_slice-in-Upload.ensures ∙ sym c.in-Upload.is)
    (c.begin_upload.ensures.begins c.args.nodes.now)

pub returns-in-Changing-clause-begins : goal.returns-in-Changing-clause-begins
returns-in-Changing-clause-begins c =
    let made : List ℕ → List ℕ → List ℕ → Job = λ file other secret. Changing file other c.in-Changing.after secret c.in-Changing.params in
    subst (λ (job : Job). IfOk c.begin_changing.result (Begins job c.args.servers.now c.args.nodes.now c.args.session c.args.now))
    (ap (λ (f : List ℕ). made f c.as_slice-in-Changing-2.result.now c.as_slice-in-Changing-3.result.now) c.as_slice-in-Changing.ensures
    ∙ ap (λ (f : List ℕ). made c.in-Changing.file f c.as_slice-in-Changing-3.result.now) c.as_slice-in-Changing-2.ensures
    ∙ ap (made c.in-Changing.file c.in-Changing.other) c.as_slice-in-Changing-3.ensures ∙ sym c.in-Changing.is)
    (c.begin_changing.ensures.begins c.args.nodes.now)

pub returns-in-Download-clause-begins : goal.returns-in-Download-clause-begins
returns-in-Download-clause-begins c =
    subst (λ (job : Job). IfOk c.begin_download.result (Begins job c.args.servers.now c.args.nodes.now c.args.session c.args.now)) (sym c.in-Download.is) (c.begin_download.ensures.begins c.args.servers.now)

pub returns-in-Check-clause-begins : goal.returns-in-Check-clause-begins
returns-in-Check-clause-begins c =
    subst (λ (job : Job). IfOk c.begin_check.result (Begins job c.args.servers.now c.args.nodes.now c.args.session c.args.now)) (sym c.in-Check.is) (c.begin_check.ensures.begins c.args.servers.now)
