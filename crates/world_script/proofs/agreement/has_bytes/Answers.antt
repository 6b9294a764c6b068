use Rattle.std.proofs.Common.{◌≡◌, ◌↔◌, All, IsTrue, List, rules, subst}
use Rattle.download_segments.specs.declared.piece.Piece.{Piece}
use Rattle.world_operations.specs.declared.job.Job.TheVariants.{Download}
use Rattle.world_script.specs.Agreeing.{AreSame}
use Rattle.world_script.proofs.agreement.has_bytes.Goals as goal

pub returns-in-Download : goal.returns-in-Download
returns-in-Download c =
    let same : IsTrue c.have_same.result ↔ All (λ (piece : Piece). AreSame piece.offset piece.bytes c.args.offset c.args.bytes.now) c.args.operation.now.given = subst (λ (ps : List Piece). IsTrue c.have_same.result ↔ All (λ (piece : Piece). AreSame piece.offset piece.bytes c.args.offset c.args.bytes.now) ps) c.as_slice.ensures c.have_same.ensures in
    let cap : c.in-Download.other ≡ c.args.cap.now = search rules in
    let job : c.args.operation.now.job ≡ Download c.args.cap.now c.in-Download.field-1 c.in-Download.field-2 = cc in (
      λ t from to e. same.0 t,
      λ has. same.1 (has c.in-Download.field-1 c.in-Download.field-2 job),
    )
