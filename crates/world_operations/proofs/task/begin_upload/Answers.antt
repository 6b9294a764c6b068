use Rattle.std.proofs.Common.{◌≡◌, ◌∙◌, ◌≤◌, ℕ, List, length, rules, subst, ap, sym}
use Rattle.ueb.specs.Limits.{min_file_size}
use Rattle.file_upload.specs.Prepared.{Prepared, prepared_of, upload_of}
use Rattle.file_upload.specs.declared.prepared.FileUpload.TheVariants.{Shares}
use Rattle.upload_core.specs.Moves as upload
use Rattle.upload_core.specs.Ready.{Ready}
use Rattle.world_operations.specs.declared.upload_pieces.UploadPieces.{UploadPieces}
use Rattle.world_operations.specs.declared.upload_pieces.UploadPieces.TheVariants.{Whole}
use Rattle.world_operations.specs.UploadPieces.{ready_with}
use Rattle.world_operations.proofs.task.begin_upload.Goals as goal

shares_same : (p q : Prepared) → Shares p ≡ Shares q → p ≡ q
shares_same p q e = cc

pub returns-in_ok-start-in-Ok-Shares-clause-begins : goal.returns-in_ok-start-in-Ok-Shares-clause-begins
returns-in_ok-start-in-Ok-Shares-clause-begins c nodes =
    let big : min_file_size ≤ length c.args.file.now = search rules in
    let made : Prepared = c.in-Ok-Shares.prepared in
    let begun = c.in_ok-start-in-Ok-Shares in
    let same : made ≡ prepared_of c.args.file.now c.args.secret.now c.args.params.now = shares_same made _ (sym c.in-Ok-Shares.field-0-is ∙ c.in-Ok-Shares.ensures.shares big) in
    let is : c.of_whole-ready.result ≡ ready_with (upload_of (prepared_of c.args.file.now c.args.secret.now c.args.params.now)) Whole =
    c.of_whole-ready.ensures ∙ ap (λ (r : Ready (List (List ℕ))). ready_with r Whole) (c.into_upload.ensures ∙ ap upload_of same) in (
      subst (λ (r : Ready UploadPieces). upload.Begins r.goal r.happy c.args.servers.now c.args.session c.args.now begun.field-0.course) is begun.ensures.begins,
      begun.ensures.pieces ∙ ap (λ (r : Ready UploadPieces). r.pieces) is,
    )
