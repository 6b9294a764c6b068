use Rattle.std.proofs.Common.{◌≡◌, ◌∙◌, ℕ, Err, ap, refl, rules, subst}
use Rattle.file_upload.specs.Shares.{shares_goal}
use Rattle.file_upload.specs.declared.repair.RepairError.TheVariants.{Inconsistent}
use Rattle.upload_core.specs.Moves as upload
use Rattle.upload_core.specs.Ready.{Ready}
use Rattle.upload_core.specs.State.{Goal}
use Rattle.world_operations.specs.declared.upload_pieces.UploadPieces.{UploadPieces}
use Rattle.world_operations.specs.Repairs.{contradicts, makes}
use Rattle.world_operations.proofs.task.Task.begin_repair.Goals as goal

pub returns-in_ok-upload-in-Ok : goal.returns-in_ok-upload-in-Ok
returns-in_ok-upload-in-Ok c =
    let begun = c.in_ok-upload-in-Ok in
    let made = c.in-Ok.ensures.made in
    let is = c.of_whole-ready.ensures in
    let goal_is : c.of_whole-ready.result.goal ≡ shares_goal c.args.cap.now c.in-Ok.ready.pieces = ap (λ (r : Ready UploadPieces). r.goal) is ∙ made.goal in
    let happy_is : c.of_whole-ready.result.happy ≡ c.args.happy = ap (λ (r : Ready UploadPieces). r.happy) is ∙ made.happy_is in
    makes c.in-Ok.ready.pieces begun.upload made.anew refl refl
    (subst (λ (g : Goal). upload.Begins g c.args.happy c.args.servers.now c.args.session c.args.now begun.upload.course) goal_is
    (subst (λ (h : ℕ). upload.Begins c.of_whole-ready.result.goal h c.args.servers.now c.args.session c.args.now begun.upload.course) happy_is begun.ensures.begins))
    (begun.ensures.pieces ∙ ap (λ (r : Ready UploadPieces). r.pieces) is)

pub returns-in-Err-Inconsistent : goal.returns-in-Err-Inconsistent
returns-in-Err-Inconsistent c =
    let wrong : c.prepare_repair.result ≡ Err Inconsistent = search rules in
    contradicts (c.prepare_repair.ensures.inconsistent wrong) c.over-in-Err-Inconsistent.ensures.job c.over-in-Err-Inconsistent.ensures.task
